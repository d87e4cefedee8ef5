use Rattle.std.proofs.Common.{ℕ, ap, sym, subst, get_or, arith, w64, bit_and}
use Rattle.std.specs.Int.{bit_not}
use Rattle.columns.proofs.Words.{IsInside, negation_shown}
use Rattle.columns.proofs.Written.{written, unwritten}
use Rattle.columns.proofs.logic.not_masks.Goals as goal

pub returns : goal.returns
returns c xs e shown =
    let t = c.args.is_true.now in
    let n = c.args.is_null.now in
    let new = c.loop-k.is_true in
    negation_shown xs t n new shown c.loop-k.auto.is_true c.loop-k.invariant.fit (λ j. (c.type_inv.is_null j).fits)
    (λ j lt. subst (λ (m : ℕ). IsInside m j (get_or t j 0) (get_or n j 0) (get_or new j 0)) (sym e) (c.loop-k.invariant.done j (omega arith)))

pub loop-k-preserved : goal.loop-k-preserved
loop-k-preserved c =
    let t = c.args.is_true.now in
    let n = c.args.is_null.now in
    let ws = c.loop-k.is_true in
    let k = c.loop-k.k in
    let of = λ (x : ℕ). bit_and (bit_and (bit_not w64 x) (bit_not w64 (get_or n k 0))) c.item_bits.result in
    record {
      fit = c.loop-k.invariant.fit;
      done = written ws k (of (get_or ws k 0)) (λ j. IsInside c.args.len j (get_or t j 0) (get_or n j 0)) (omega arith) c.loop-k.invariant.done
          (record { inside = c.item_bits.result; is = ap of (c.loop-k.invariant.left k (omega arith)); items = c.item_bits.ensures.items; past = c.item_bits.ensures.past });
      left = unwritten ws k (of (get_or ws k 0)) t c.loop-k.invariant.left;
    }
