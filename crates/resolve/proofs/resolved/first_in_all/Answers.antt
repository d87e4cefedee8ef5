use Rattle.std.proofs.Common.{◌∙◌, ap, arith}
use Rattle.std.specs.Prelude.{option_map}
use Rattle.expr.specs.View.{bound_expr_of}
use Rattle.expr.specs.Offsets.{least_of}
use Rattle.expr.proofs.Leasts.{least_after, least_next, least_of_none}
use Rattle.memory.proofs.Lists.{known_next}
use Rattle.typing.proofs.Walks.{known_over}
use Rattle.resolve.specs.Resolved.{first_in}
use Rattle.resolve.proofs.resolved.first_in_all.Goals as goal

pub loop-condition-preserved : goal.loop-condition-preserved
loop-condition-preserved g c =
    known_next (least_after first_in) (λ known o. least_of known (first_in o)) (λ o. option_map (λ b. bound_expr_of b.value) o) c.args.conditions.now c.loop-condition.condition-index
    (least_next first_in) c.condition-item.result c.loop-condition-test.true c.condition-item.is c.loop-condition.known _ _ c.loop-condition.invariant
    (c.least_of-known.ensures ∙ ap (least_of c.loop-condition.known) c.first_in.ensures)

pub returns : goal.returns
returns g c =
    known_over (least_after first_in) (λ o. option_map (λ b. bound_expr_of b.value) o) c.args.conditions.now c.loop-condition.condition-index
    least_of_none c.loop-condition.known _ c.loop-condition.invariant (omega (arith, c.loop-condition-test.false))
