use Rattle.std.proofs.Common.{◌≡◌, ◌∙◌, ◌++◌, true, ap, map, sym, subst}
use Rattle.stats.specs.View.{selections_of, stats_of}
use Rattle.trailcheck.specs.Admissible.{are_left_steps}
use Rattle.left_tails.specs.Best.{IsBestTail, best_tail}
use Rattle.left_tails.proofs.BestTails.{tail_best, tail_may}
use Rattle.left_tails.proofs.choosing.best_tail.Goals as goal

pub returns-clause-admissible : goal.returns-clause-admissible
returns-clause-admissible g c =
    let of = map (λ s. stats_of s.now) c.args.statistics.now in
    let conditions = selections_of c.args.conditions.now in
    let best = best_tail of conditions c.args.v c.args.entry c.args.lefts.now in
    subst (λ ss. are_left_steps c.args.entry c.args.lefts.now ss ≡ true) (sym (c.in_ok-push_best_tail.ensures ∙ ap (λ l. l ++ best) c.new-tail.ensures)) (tail_may of conditions c.args.v c.args.entry c.args.lefts.now)

pub returns-clause-least : goal.returns-clause-least
returns-clause-least g c =
    let of = map (λ s. stats_of s.now) c.args.statistics.now in
    let conditions = selections_of c.args.conditions.now in
    let best = best_tail of conditions c.args.v c.args.entry c.args.lefts.now in
    subst (λ ss. IsBestTail of conditions c.args.v c.args.entry c.args.lefts.now ss) (sym (c.in_ok-push_best_tail.ensures ∙ ap (λ l. l ++ best) c.new-tail.ensures)) (tail_best of conditions c.args.v c.args.entry c.args.lefts.now)
