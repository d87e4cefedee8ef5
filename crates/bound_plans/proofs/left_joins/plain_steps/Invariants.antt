use Rattle.std.proofs.Common.{◌≡◌, ◌++◌, drop, map}
use Rattle.bound_plans.proofs.left_joins.plain_steps.Given as goal

abbrev pub invariant-loop-step : goal.invariant-loop-step
invariant-loop-step g l = l.steps ++ map (λ s. s.step) (drop l.step-index l.marked) ≡ map (λ s. s.step) l.marked
