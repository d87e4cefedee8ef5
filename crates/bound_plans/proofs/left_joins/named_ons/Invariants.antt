use Rattle.std.proofs.Common.{◌≡◌, ◌+◌, ◌++◌, drop, map}
use Rattle.scope.specs.View.{entries_of}
use Rattle.plan_texts.specs.View.{on_of}
use Rattle.bound_plans.specs.LeftJoins.{named_ons, named_ons_from}
use Rattle.bound_plans.proofs.left_joins.named_ons.Given as goal

abbrev pub invariant-loop-index : goal.invariant-loop-index
invariant-loop-index g l = map on_of l.ons ++ named_ons_from (entries_of l.entries) (l.inner + 1 + l.index) (drop l.index l.lefts) ≡ named_ons (entries_of l.entries) l.lefts
