use Rattle.rewrite.proofs.SimplifyingSteps.{higher, simplified_next}
use Rattle.rewrite.proofs.simplifying.push_simplifying.Goals as goal

pub loop-preserved : goal.loop-preserved
loop-preserved g c = record {
  deep = higher c.args.conditions.now c.loop.index c.loop.depth c.loop-test.true c.loop.invariant.deep;
  added = simplified_next c.args.conditions.now c.loop.index c.loop.depth c.loop-test.true c.loop.invariant.deep _ _ _ _ c.loop.invariant.added c.in_ok-push_step.ensures c.in_ok-push_step-2.ensures;
}
