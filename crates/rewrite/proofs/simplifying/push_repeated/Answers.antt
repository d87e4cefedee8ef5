use Rattle.std.proofs.Common.{refl, append-nil}
use Rattle.rewrite.specs.Trails.{at_root}
use Rattle.rewrite.proofs.SimplifyingSteps.{below_none, repeated_next}
use Rattle.rewrite.proofs.simplifying.push_repeated.Goals as goal

pub loop-init : goal.loop-init
loop-init g c = rw (below_none c.args.depth, append-nil) refl

pub loop-preserved : goal.loop-preserved
loop-preserved g c = repeated_next c.args.depth c.loop.counter (at_root c.args.rule) _ _ _ c.loop.invariant c.in_ok-push_step.ensures
