use Rattle.std.proofs.Common.{length}
use Rattle.answer_rows.proofs.comparing.+cmp_rows.Given as goal

abbrev pub decreases-cmp_rows : goal.decreases-cmp_rows
decreases-cmp_rows g l = length l.a.now
