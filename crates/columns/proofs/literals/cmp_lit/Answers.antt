use Rattle.std.proofs.Common.{◌≡◌, ℕ, ◌*◌, ◌<◌, length, map, get_or, ℤ, List, ap, sym, subst, ◌∙◌, arith, w64, to_z, of_z, bit_and}
use Rattle.std.specs.Int.{bit_not}
use Rattle.std.specs.Simd.Lanes.{chunk, mask_l}
use Rattle.std.proofs.lemmas.Int.{to_z-of_z}
use Rattle.std.proofs.lemmas.List.{length-map}
use Rattle.value.specs.Datum.{int}
use Rattle.value.specs.Orders.{compared, test_of}
use Rattle.columns.specs.Bits.{words_for}
use Rattle.columns.specs.Columns.{ints_of}
use Rattle.columns.specs.Comparing.{holds, Show}
use Rattle.columns.proofs.MaskTests.{bits_without}
use Rattle.columns.proofs.Truths.{compared_masks}
use Rattle.columns.proofs.Written.{written}
use Rattle.columns.proofs.literals.cmp_lit.Goals as goal

pub returns : goal.returns
returns c bits e mask =
    let zs = c.args.values.now in
    let ws = c.loop-k.is_true in
    let nulls = c.args.nulls.now in
    let long = c.loop-k.auto.is_true ∙ c.requires.true_words in
    let words = subst (λ (l : ℤ). (k : ℕ) → k < length ws → get_or ws k 0 ≡ bit_and (mask_l (chunk (k * 64) 64 (map (λ z. holds c.args.op z l) zs))) (bit_not w64 (get_or nulls k 0)))
    (to_z-of_z w64 c.args.lit c.ranges.lit) (λ k lt. c.loop-k.invariant k (omega arith)) in
    subst (λ (ns : List ℕ). Show (map (λ d. compared (test_of c.args.op) d (int c.args.lit)) (ints_of zs bits)) ws ns) (sym c.copy_from_slice.ensures.after)
    (compared_masks (test_of c.args.op) c.args.lit zs bits nulls ws e mask long (bits_without (map (λ z. holds c.args.op z c.args.lit) zs) nulls ws (long ∙ ap words_for (sym (length-map zs (λ z. holds c.args.op z c.args.lit)))) words (λ k. (c.type_inv.nulls k).fits)))

pub loop-k-preserved : goal.loop-k-preserved
loop-k-preserved c =
    let zs = c.args.values.now in
    let nulls = c.args.nulls.now in
    let k = c.loop-k.k in
    written c.loop-k.is_true k (bit_and c.literal_word.result (bit_not w64 (get_or nulls k 0)))
    (λ j w. w ≡ bit_and (mask_l (chunk (j * 64) 64 (map (λ z. holds c.args.op z (to_z w64 (of_z w64 c.args.lit))) zs))) (bit_not w64 (get_or nulls j 0)))
    (omega arith) c.loop-k.invariant (ap (λ w. bit_and w (bit_not w64 (get_or nulls k 0))) c.literal_word.ensures)
