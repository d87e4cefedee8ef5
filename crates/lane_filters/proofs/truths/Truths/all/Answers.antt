use Rattle.std.proofs.Common.{Bool, map, replicate, sym, ap, ◌∙◌}
use Rattle.value.specs.Orders.{of_bool}
use Rattle.value.specs.Truths.{negated}
use Rattle.lane_filters.proofs.Shown.{negated_false}
use Rattle.lane_filters.proofs.truths.Truths.all.Goals as goal
use Rattle.lane_filters.proofs.truths.Truths.all.Goals.{then-truth, else-truth}

pub returns : goal.returns
returns g c =
    elim c.if-truth.branch [
      | then-truth w ↦ w.truths-is ∙ w.negate.ensures ∙ ap (map negated) c.in_ok-truths.ensures ∙ negated_false c.args.len ∙ ap (λ (b : Bool). replicate c.args.len (of_bool b)) (sym w.if-truth.true)
      | else-truth w ↦ w.truths-is ∙ c.in_ok-truths.ensures ∙ ap (λ (b : Bool). replicate c.args.len (of_bool b)) (sym w.if-truth.false)
    ]
