use Rattle.std.proofs.Common.{◌≡◌, get_or, ◌∙◌, arith}
use Rattle.columns.proofs.Words.{either_true, either_null, either_shown}
use Rattle.columns.proofs.Written.{written, unwritten}
use Rattle.columns.proofs.logic.or_masks.Goals as goal

pub returns : goal.returns
returns c xs ys e first second =
    let t = c.args.is_true.now in
    let n = c.args.is_null.now in
    let u = c.args.other_true.now in
    let m = c.args.other_null.now in
    either_shown xs ys t n u m e first second c.loop-k.invariant.fit (λ j. (c.type_inv.other_true j).fits) c.loop-k.is_true c.loop-k.is_null c.loop-k.auto.is_true (c.loop-k.auto.is_null ∙ c.requires.nulls)
    (λ j lt. c.loop-k.invariant.true_done j (omega arith)) (λ j lt. c.loop-k.invariant.null_done j (omega arith))

pub loop-k-preserved : goal.loop-k-preserved
loop-k-preserved c =
    let t = c.args.is_true.now in
    let n = c.args.is_null.now in
    let u = c.args.other_true.now in
    let m = c.args.other_null.now in
    let trues = c.loop-k.is_true in
    let nulls = c.loop-k.is_null in
    let k = c.loop-k.k in
    let first = get_or trues k 0 in
    let null = get_or nulls k 0 in
    let was_true : first ≡ get_or t k 0 = c.loop-k.invariant.true_left k (omega arith) in
    let was_null : null ≡ get_or n k 0 = c.loop-k.invariant.null_left k (omega arith) in
    let second = get_or u k 0 in
    let other = get_or m k 0 in
    record {
      fit = c.loop-k.invariant.fit;
      true_done = written trues k (either_true first null second other) (λ j w. w ≡ either_true (get_or t j 0) (get_or n j 0) (get_or u j 0) (get_or m j 0)) (omega arith) c.loop-k.invariant.true_done
          (λ i. either_true (was_true i) (was_null i) second other);
      null_done = written nulls k (either_null first null second other) (λ j w. w ≡ either_null (get_or t j 0) (get_or n j 0) (get_or u j 0) (get_or m j 0)) (omega (arith, c.requires.nulls, c.loop-k.auto.is_null)) c.loop-k.invariant.null_done
          (λ i. either_null (was_true i) (was_null i) second other);
      true_left = unwritten trues k (either_true first null second other) t c.loop-k.invariant.true_left;
      null_left = unwritten nulls k (either_null first null second other) n c.loop-k.invariant.null_left;
    }
