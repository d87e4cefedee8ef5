use Rattle.std.proofs.Common.{◌≡◌, ◌∷◌, drop, map}
use Rattle.value.specs.Datum.{datum}
use Rattle.typing.specs.Typing.{common_of, common_of_all, type_of}
use Rattle.typing.proofs.types.common_of_all.Given as goal

abbrev pub invariant-loop-value : goal.invariant-loop-value
invariant-loop-value g l = common_of l.known (common_of_all (map type_of (map datum (drop l.value-index l.values)))) ≡ common_of_all (l.fn.first ∷ map type_of (map datum l.values))
