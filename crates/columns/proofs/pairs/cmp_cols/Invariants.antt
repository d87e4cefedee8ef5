use Rattle.std.proofs.Common.{◌≡◌, ◌<◌, ◌*◌, ℕ, get_or, bit_and, bit_or}
use Rattle.std.specs.Int.{bit_not, w64}
use Rattle.std.specs.Simd.Lanes.{chunk, mask_l, zip2}
use Rattle.columns.specs.Comparing.{holds}
use Rattle.columns.proofs.pairs.cmp_cols.Given as goal

abbrev pub invariant-loop-k : goal.invariant-loop-k
invariant-loop-k l = record {
  trues : (j : ℕ) → j < l.k → get_or l.is_true j 0 ≡ bit_and (bit_and (mask_l (chunk (j * 64) 64 (zip2 (holds l.op) l.values l.others))) (bit_not w64 (get_or l.nulls j 0))) (bit_not w64 (get_or l.other_nulls j 0));
  unknown : (j : ℕ) → j < l.k → get_or l.is_null j 0 ≡ bit_or (get_or l.nulls j 0) (get_or l.other_nulls j 0);
}
