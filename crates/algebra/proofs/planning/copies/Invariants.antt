use Rattle.std.proofs.Common.{◌≡◌, ◌++◌, drop}
use Rattle.algebra.proofs.planning.copies.Given as goal

abbrev pub invariant-loop-condition : goal.invariant-loop-condition
invariant-loop-condition g l = l.all ++ drop l.condition-index l.conditions ≡ l.conditions
