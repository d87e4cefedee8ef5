use Rattle.std.proofs.Common.{◌≡◌, ◌+◌, suc, drop, map}
use Rattle.plan_texts.specs.View.{on_of}
use Rattle.bound_plans.specs.LeftJoins.{are_numbered}
use Rattle.bound_plans.proofs.left_joins.are_numbered.Given as goal

abbrev pub invariant-loop-index : goal.invariant-loop-index
invariant-loop-index g l = are_numbered (l.inner + 1 + l.index) (map on_of (drop l.index l.ons)) ≡ are_numbered (suc l.inner) (map on_of l.ons)
