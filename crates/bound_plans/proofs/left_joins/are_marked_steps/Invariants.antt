use Rattle.std.proofs.Common.{◌≡◌, drop}
use Rattle.std.specs.List.{list_all}
use Rattle.bound_plans.specs.LeftJoins.{is_marked}
use Rattle.bound_plans.proofs.left_joins.are_marked_steps.Given as goal

abbrev pub invariant-loop-step : goal.invariant-loop-step
invariant-loop-step l = list_all (is_marked l.inner) (drop l.step-index l.steps) ≡ list_all (is_marked l.inner) l.steps
