use Rattle.std.proofs.Common.{◌≡◌, ◌++◌, drop, map}
use Rattle.value.specs.Datum.{datum}
use Rattle.value.proofs.copies.copy_values.Given as goal

abbrev pub invariant-loop-value : goal.invariant-loop-value
invariant-loop-value g l = map datum l.copies ++ map datum (drop l.value-index l.values) ≡ map datum l.values
