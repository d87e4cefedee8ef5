use Rattle.std.proofs.Common.{◌≡◌, ◌+◌, ◌<◌, ◌∷◌, Ok, ap, arith, drop, length, subst, sym, ◌∙◌}
use Rattle.std.proofs.lemmas.List.{at_drop_all, drop_more}
use Rattle.value.specs.Datum.{datum_of, null}
use Rattle.groups.specs.Members.{all_of}
use Rattle.groups.specs.Running.{AreOutcomesInPlace}
use Rattle.groups.specs.View.{totals_of}
use Rattle.groups.proofs.Adding.{due_more, none_from, place_more, with_due}
use Rattle.groups.proofs.totals.add_arguments.Goals as goal

pub loop-index-preserved : goal.loop-index-preserved
loop-index-preserved g c =
    let outcomes = g.G.Arguments.outcomes c.args.arguments.now in
    let i = c.loop-index.index in
    let ts = totals_of c.loop-index.totals.items in
    let d = datum_of c.in_ok-argument.argument in
    let lt : i < length outcomes = subst (λ n. i < n) c.count-index-end.ensures c.loop-index-test.true in
    let first : drop i outcomes ≡ Ok d ∷ drop (i + 1) outcomes = drop_more outcomes i (Ok null) lt ∙ ap (λ o. o ∷ drop (i + 1) outcomes) c.in_ok-argument.ensures.value in
    record {
      added = ap (λ l. with_due (i + 1) l (all_of (drop (i + 1) outcomes))) c.in_ok-add_at.ensures.added ∙ due_more i ts d (all_of (drop (i + 1) outcomes))
          ∙ ap (λ os. with_due i ts (all_of os)) (sym first) ∙ c.loop-index.invariant.added;
      in_place = λ some all. subst (λ l. AreOutcomesInPlace (drop (i + 1) l) (drop (i + 1) outcomes)) (sym c.in_ok-add_at.ensures.added)
          (place_more i ts d (drop (i + 1) outcomes) (subst (AreOutcomesInPlace (drop i ts)) first (c.loop-index.invariant.in_place some all)));
    }

pub returns-clause-added : goal.returns-clause-added
returns-clause-added g c =
    let i = c.loop-index.index in
    let ts = totals_of c.loop-index.totals.items in
    sym c.loop-index.invariant.added ∙ at_drop_all (λ os. with_due i ts (all_of os)) (g.G.Arguments.outcomes c.args.arguments.now) i (omega (arith, c.count-index-end.ensures)) ∙ ap Ok (none_from i ts)
