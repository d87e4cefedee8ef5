use Rattle.std.proofs.Common.{◌&&◌, false, get_or, not, arith}
use Rattle.access_matrix.proofs.Counts.{counted_none, counted_one}
use Rattle.access_matrix.proofs.counting.count_gained.Goals.{then-is_gained, else-is_gained}
use Rattle.access_matrix.proofs.counting.count_gained.Goals as goal

pub loop-number-preserved : goal.loop-number-preserved
loop-number-preserved g c = elim c.if-is_gained.branch [
  | then-is_gained w ↦ record {
    few = omega (arith, w.count-is, c.loop-number.invariant.few);
    counted = counted_one (λ k. get_or c.args.new.now k false && not (get_or c.args.old.now k false)) c.loop-number.number c.loop-number.count c.loop-number.invariant.counted w.if-is_gained.ensures _ w.count-is;
  }
  | else-is_gained w ↦ record {
    few = omega (arith, w.count-is, c.loop-number.invariant.few);
    counted = counted_none (λ k. get_or c.args.new.now k false && not (get_or c.args.old.now k false)) c.loop-number.number c.loop-number.count c.loop-number.invariant.counted w.if-is_gained.ensures _ w.count-is;
  }
]
