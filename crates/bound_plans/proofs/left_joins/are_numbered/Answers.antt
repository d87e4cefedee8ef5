use Rattle.std.proofs.Common.{arith}
use Rattle.plan_texts.specs.View.{on_of}
use Rattle.bound_plans.proofs.Ons.{number_next, other_number}
use Rattle.bound_plans.proofs.left_joins.are_numbered.Goals as goal

pub loop-index-preserved : goal.loop-index-preserved
loop-index-preserved g c =
    number_next on_of c.args.ons.now c.args.inner c.loop-index.index _ c.loop-index.invariant c.index-ons-index.result c.loop-index-test.true c.index-ons-index.is (omega (arith, c.from.ensures, c.if-from-inner.false))

pub returns-then-from-inner : goal.returns-then-from-inner
returns-then-from-inner g c =
    other_number on_of c.args.ons.now c.args.inner c.loop-index.index _ c.loop-index.invariant c.index-ons-index.result c.loop-index-test.true c.index-ons-index.is (λ e. omega (arith, c.from.ensures, c.if-from-inner.true, e))
