use Rattle.std.proofs.Common.{arith}
use Rattle.std.specs.Prelude.{option_map}
use Rattle.expr.specs.View.{bound_expr_of}
use Rattle.memory.proofs.Lists.{flat_next, flat_over}
use Rattle.row_terms.specs.Written.{left_condition_in}
use Rattle.row_terms.proofs.query_term.push_left_conditions.Goals as goal

pub loop-condition-preserved : goal.loop-condition-preserved
loop-condition-preserved g c =
    flat_next left_condition_in (λ o. option_map (λ b. bound_expr_of b.value) o) c.args.conditions.now c.loop-condition.condition-index _ _ c.loop-condition.invariant c.condition-item.result c.loop-condition-test.true c.condition-item.is _ c.in_ok-push_left_condition.ensures

pub returns : goal.returns
returns g c = flat_over left_condition_in (λ o. option_map (λ b. bound_expr_of b.value) o) c.args.conditions.now c.loop-condition.condition-index _ _ c.loop-condition.invariant (omega (arith, c.loop-condition-test.false))
