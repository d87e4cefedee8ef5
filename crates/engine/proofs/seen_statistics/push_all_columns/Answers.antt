use Rattle.std.proofs.Common.{arith}
use Rattle.memory.proofs.Lists.{flat_next, flat_over}
use Rattle.expr.specs.Columns.{columns}
use Rattle.expr.specs.View.{bound_expr_of}
use Rattle.engine.proofs.seen_statistics.push_all_columns.Goals as goal

pub loop-condition-preserved : goal.loop-condition-preserved
loop-condition-preserved g c =
    flat_next columns (λ e. bound_expr_of e.now) c.args.conditions.now c.loop-condition.condition-index _ _ c.loop-condition.invariant c.condition-item.result c.loop-condition-test.true c.condition-item.is _ c.in_ok-push_columns.ensures

pub returns : goal.returns
returns g c = flat_over columns (λ e. bound_expr_of e.now) c.args.conditions.now c.loop-condition.condition-index _ _ c.loop-condition.invariant (omega (arith, c.loop-condition-test.false))
