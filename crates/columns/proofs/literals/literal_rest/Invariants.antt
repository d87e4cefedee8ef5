use Rattle.std.proofs.Common.{◌≡◌, ◌≤◌, drop, length, map}
use Rattle.std.specs.Simd.Lanes.{mask_l}
use Rattle.columns.specs.Comparing.{holds}
use Rattle.columns.proofs.literals.literal_rest.Given as goal

abbrev pub invariant-loop-left : goal.invariant-loop-left
invariant-loop-left l = record {
  low : l.at ≤ l.left;
  within : l.left ≤ length l.values;
  so_far : l.word ≡ mask_l (drop l.left (map (λ z. holds l.op z l.lit) l.values));
}

abbrev pub decreases-loop-left : goal.decreases-loop-left
decreases-loop-left l = l.left
