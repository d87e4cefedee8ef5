use Rattle.std.proofs.Common.{◌≡◌, drop}
use Rattle.std.specs.List.{position_from}
use Rattle.algebra.specs.PlanningList.{turns, first_turning}
use Rattle.algebra.proofs.turning.first_turning.Given as goal

abbrev pub invariant-loop-i : goal.invariant-loop-i
invariant-loop-i g l = position_from (turns l.entry) l.i (drop l.i l.conditions) ≡ first_turning l.entry l.conditions
