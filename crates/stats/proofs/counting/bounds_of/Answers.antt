use Rattle.std.proofs.Common.{◌≡◌, Some, get_or, pos, arith}
use Rattle.std.specs.Prelude.{option_map}
use Rattle.std.specs.Ordering.{int_cmp}
use Rattle.std.proofs.lemmas.Cmp.{back_total, int_cmp_total}
use Rattle.std.proofs.lemmas.Int.{ints, to_z-of_z}
use Rattle.std.proofs.lemmas.List.{get_or_default}
use Rattle.bags.specs.Least.{lesser}
use Rattle.stats.proofs.Passes.{least_next}
use Rattle.stats.proofs.counting.bounds_of.Goals as goal

pub loop-number-preserved : goal.loop-number-preserved
loop-number-preserved c =
    let numbers = c.args.numbers.now in
    let i = c.loop-number.number-index in
    let n = get_or numbers i (pos 0) in
    let low = option_map (λ b. b.least) c.loop-number.bounds in
    let high = option_map (λ b. b.greatest) c.loop-number.bounds in
    let lower : Some c.widened.result.least ≡ lesser int_cmp low (Some n) = search (arith, ints, to_z-of_z, c.widened.ensures.least) in
    let higher : Some c.widened.result.greatest ≡ lesser (λ x y. int_cmp y x) high (Some n) = search (arith, ints, to_z-of_z, c.widened.ensures.greatest) in record {
      low = least_next int_cmp int_cmp_total numbers i n low _ _ c.loop-number-test.true (get_or_default numbers i (pos 0) n c.loop-number-test.true) lower c.loop-number.invariant.low;
      high = least_next (λ x y. int_cmp y x) (back_total int_cmp_total) numbers i n high _ _ c.loop-number-test.true (get_or_default numbers i (pos 0) n c.loop-number-test.true) higher c.loop-number.invariant.high;
    }
