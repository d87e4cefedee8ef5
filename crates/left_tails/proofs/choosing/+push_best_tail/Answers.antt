use Rattle.std.proofs.Common.{◌≡◌, ◌+◌, suc, map, arith}
use Rattle.std.proofs.lemmas.Result.{on_ok_weaker}
use Rattle.stats.specs.View.{selections_of, stats_of}
use Rattle.left_tails.proofs.BestTails.{pushed}
use Rattle.left_tails.proofs.choosing.+push_best_tail.Goals as goal

pub returns-in_ok-push-in-len1-up : goal.returns-in_ok-push-in-len1-up
returns-in_ok-push-in-len1-up g t c =
    let of = map (λ s. stats_of s.now) c.args.statistics.now in
    let conditions = selections_of c.args.conditions.now in
    let next : c.args.entry + 1 ≡ suc c.args.entry = omega arith in
    on_ok_weaker c.push_best_tail.result
    (pushed of conditions c.args.v c.args.entry c.size_with_left-size.result (c.args.entry + 1) c.args.lefts.now c.on-item.result c.args.known.now c.push.new.self c.push_best_tail.new.known c.best_left_step.result (omega (arith, c.in-len1-up.len_at_least)) c.on-item.is c.best_left_step.ensures
    c.in_ok-push-in-len1-up.ensures.ok c.size_with_left-size.ensures.value next) c.push_best_tail.ensures
