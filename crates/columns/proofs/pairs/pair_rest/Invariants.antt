use Rattle.std.proofs.Common.{◌≡◌, ◌≤◌, drop, length}
use Rattle.std.specs.Simd.Lanes.{mask_l, zip2}
use Rattle.columns.specs.Comparing.{holds}
use Rattle.columns.proofs.pairs.pair_rest.Given as goal

abbrev pub invariant-loop-over : goal.invariant-loop-over
invariant-loop-over l = record {
  low : l.at ≤ l.over;
  within : l.over ≤ length l.left;
  so_far : l.word ≡ mask_l (drop l.over (zip2 (holds l.op) l.left l.right));
}

abbrev pub decreases-loop-over : goal.decreases-loop-over
decreases-loop-over l = l.over
