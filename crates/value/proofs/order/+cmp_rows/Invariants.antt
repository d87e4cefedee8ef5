use Rattle.std.proofs.Common.{length}
use Rattle.value.proofs.order.+cmp_rows.Given as goal

abbrev pub decreases-cmp_rows : goal.decreases-cmp_rows
decreases-cmp_rows g l = length l.a.now
