use Rattle.std.proofs.Common.{◌∙◌, map}
use Rattle.std.proofs.lemmas.Result.{on_ok_weaker}
use Rattle.algebra.specs.View.{step_of}
use Rattle.rewrite.proofs.TurningSteps.{making_added}
use Rattle.rewrite.proofs.turning.push_making_inner.Goals as goal

pub returns : goal.returns
returns g c =
    on_ok_weaker c.push_upward-2.result
    (λ n. making_added c.args.path.now c.args.lefts (map step_of c.args.trail.now) (map step_of c.push_downward.new.trail) (map step_of c.push_step.new.trail) (map step_of c.push_upward.new.trail) (map step_of c.push_upward-2.new.trail)
    c.as_slice.result.now c.as_slice-2.result.now (c.as_slice.ensures ∙ c.in_ok-node.ensures) (c.as_slice-2.ensures ∙ c.in_ok-below.ensures) c.in_ok-push_downward.ensures c.in_ok-push_step.ensures c.in_ok-push_upward.ensures n)
    c.push_upward-2.ensures
