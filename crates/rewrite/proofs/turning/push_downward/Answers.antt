use Rattle.std.proofs.Common.{◌∙◌, map, refl}
use Rattle.algebra.specs.View.{step_of}
use Rattle.rewrite.specs.Trails.{at_root}
use Rattle.rewrite.proofs.Below.{none_added}
use Rattle.rewrite.proofs.TurningSteps.{downward_next}
use Rattle.rewrite.proofs.turning.push_downward.Goals as goal

pub loop-i-init : goal.loop-i-init
loop-i-init g c = none_added c.args.path.now (map step_of c.args.trail.now) _ refl

pub loop-i-preserved : goal.loop-i-preserved
loop-i-preserved g c =
    downward_next c.args.path.now (map step_of c.args.trail.now) (map step_of c.loop-i.trail) (map step_of c.push_step.new.trail) (at_root c.args.rule) c.loop-i.i c.as_slice.result.now (c.as_slice.ensures ∙ c.in_ok-node.ensures) c.loop-i.invariant
    c.in_ok-push_step.ensures
