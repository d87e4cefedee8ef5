use Rattle.std.proofs.Common.{◌≡◌, ◌++◌, map, drop}
use Rattle.algebra.specs.PlanningList.{simplified}
use Rattle.algebra.proofs.planning.all_simplified.Given as goal

abbrev pub invariant-loop-condition : goal.invariant-loop-condition
invariant-loop-condition g l = l.all ++ map simplified (drop l.condition-index l.conditions) ≡ map simplified l.conditions
