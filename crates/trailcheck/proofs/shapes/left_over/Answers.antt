use Rattle.std.proofs.Common.{ap, arith, length}
use Rattle.trailcheck.proofs.shapes.left_over.Goals as goal

pub overflow_add-entry : goal.overflow_add-entry
overflow_add-entry g c = omega (arith, c.loop-on.invariant.1, c.inner_count-entry.ensures.count, c.inner_count-entry.ensures.fits, c.loop-on-test.true, ap length c.as_slice-on-items.ensures)
