use Rattle.std.proofs.Common.{◌≡◌, length, map, take}
use Rattle.value.specs.Datum as value
use Rattle.value.specs.Orders.{equal_of, is_true}
use Rattle.lane_filters.proofs.truths.equal_mask.Given as goal

abbrev pub invariant-loop-i : goal.invariant-loop-i
invariant-loop-i g l = record {
  many : length l.equal ≡ l.i;
  equal : l.equal ≡ map (λ d. is_true (equal_of d (value.text l.text))) (take l.i l.column);
}
