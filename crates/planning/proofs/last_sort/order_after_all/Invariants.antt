use Rattle.std.proofs.Common.{◌≡◌, drop}
use Rattle.joins.specs.Orders as spec
use Rattle.planning.proofs.last_sort.order_after_all.Given as goal

abbrev pub invariant-loop-step : goal.invariant-loop-step
invariant-loop-step g l = spec.order_after_all l.conditions l.known (drop l.step-index l.steps) ≡ spec.order_after_all l.conditions l.fn.order l.steps
