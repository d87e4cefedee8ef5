use Rattle.std.proofs.Common.{arith}
use Rattle.std.specs.Prelude.{option_map}
use Rattle.memory.proofs.Lists.{flat_next, flat_over}
use Rattle.expr.specs.NamedColumns.{condition_columns}
use Rattle.expr.specs.View.{bound_expr_of}
use Rattle.engine.proofs.seen_statistics.push_ons_columns.Goals as goal

pub loop-on-preserved : goal.loop-on-preserved
loop-on-preserved g c =
    flat_next condition_columns (λ o. option_map (λ b. bound_expr_of b.value) o) c.args.ons.now c.loop-on.on-index _ _ c.loop-on.invariant c.on-item.result c.loop-on-test.true c.on-item.is _ c.in_ok-push_on_columns.ensures

pub returns : goal.returns
returns g c = flat_over condition_columns (λ o. option_map (λ b. bound_expr_of b.value) o) c.args.ons.now c.loop-on.on-index _ _ c.loop-on.invariant (omega (arith, c.loop-on-test.false))
