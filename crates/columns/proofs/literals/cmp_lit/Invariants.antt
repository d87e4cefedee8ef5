use Rattle.std.proofs.Common.{◌≡◌, ◌<◌, ◌*◌, ℕ, get_or, map, bit_and}
use Rattle.std.specs.Int.{bit_not, w64}
use Rattle.std.specs.Simd.Lanes.{chunk, mask_l}
use Rattle.columns.specs.Comparing.{holds}
use Rattle.columns.proofs.literals.cmp_lit.Given as goal

abbrev pub invariant-loop-k : goal.invariant-loop-k
invariant-loop-k l = (j : ℕ) → j < l.k → get_or l.is_true j 0 ≡ bit_and (mask_l (chunk (j * 64) 64 (map (λ z. holds l.op z l.lit) l.values))) (bit_not w64 (get_or l.nulls j 0))
