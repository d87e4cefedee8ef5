use Rattle.std.proofs.Common.{◌≡◌, ◌*◌, get_or, ap, refl, ◌∙◌, arith, w64, bit_and, bit_or}
use Rattle.std.specs.Int.{bit_not}
use Rattle.std.specs.Simd.Lanes.{chunk, mask_l, zip2}
use Rattle.value.specs.Orders.{test_of}
use Rattle.columns.proofs.SideBySide.{pairs_shown}
use Rattle.columns.specs.Comparing.{holds}
use Rattle.columns.proofs.Written.{written}
use Rattle.columns.proofs.pairs.cmp_cols.Goals as goal

pub returns : goal.returns
returns c bits cits eb ec mb mc =
    pairs_shown (test_of c.args.op) c.args.values.now c.args.others.now bits cits c.requires.same eb ec c.args.nulls.now c.args.other_nulls.now c.loop-k.is_true c.loop-k.is_null mb mc
    (c.loop-k.auto.is_true ∙ c.requires.true_words) (c.loop-k.auto.is_null ∙ c.requires.null_words) (λ j. (c.type_inv.nulls j).fits) (λ j. (c.type_inv.other_nulls j).fits)
    (λ j lt. c.loop-k.invariant.trues j (omega arith)) (λ j lt. c.loop-k.invariant.unknown j (omega arith))

pub loop-k-preserved : goal.loop-k-preserved
loop-k-preserved c =
    let xs = c.args.values.now in
    let ys = c.args.others.now in
    let n = c.args.nulls.now in
    let m = c.args.other_nulls.now in
    let k = c.loop-k.k in
    record {
      trues = written c.loop-k.is_true k (bit_and (bit_and c.pair_word.result (bit_not w64 (get_or n k 0))) (bit_not w64 (get_or m k 0)))
          (λ j w. w ≡ bit_and (bit_and (mask_l (chunk (j * 64) 64 (zip2 (holds c.args.op) xs ys))) (bit_not w64 (get_or n j 0))) (bit_not w64 (get_or m j 0)))
          (omega arith) c.loop-k.invariant.trues (ap (λ w. bit_and (bit_and w (bit_not w64 (get_or n k 0))) (bit_not w64 (get_or m k 0))) c.pair_word.ensures);
      unknown = written c.loop-k.is_null k (bit_or (get_or n k 0) (get_or m k 0)) (λ j w. w ≡ bit_or (get_or n j 0) (get_or m j 0))
          (omega (arith, c.requires.true_words, c.requires.null_words, c.loop-k.auto.is_null)) c.loop-k.invariant.unknown refl;
    }
