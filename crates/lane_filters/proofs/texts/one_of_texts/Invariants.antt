use Rattle.std.proofs.Common.{◌≡◌, ◌≤◌, true, length, map, drop}
use Rattle.value.specs.Datum.{datum}
use Rattle.eval.specs.Operators.{in_of}
use Rattle.lane_filters.specs.ByLanes.{are_texts}
use Rattle.lane_filters.proofs.texts.one_of_texts.Given as goal

-- of the values from there on
abbrev pub invariant-loop-left : goal.invariant-loop-left
invariant-loop-left g l = record {
  within : l.left ≤ length l.values;
  exact : are_texts (map datum (drop l.left l.values)) ≡ true;
  known : l.known ≡ map (λ d. in_of d (map datum (drop l.left l.values))) l.column;
}

abbrev pub decreases-loop-left : goal.decreases-loop-left
decreases-loop-left g l = l.left
