use Rattle.std.proofs.Common.{◌≡◌, ◌++◌, drop, map}
use Rattle.bound_plans.specs.LeftJoins.{marked_step}
use Rattle.bound_plans.proofs.left_joins.marked_steps.Given as goal

abbrev pub invariant-loop-step : goal.invariant-loop-step
invariant-loop-step g l = l.marked ++ map (marked_step l.inner) (drop l.step-index l.steps) ≡ map (marked_step l.inner) l.steps
