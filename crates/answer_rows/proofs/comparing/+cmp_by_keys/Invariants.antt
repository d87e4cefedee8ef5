use Rattle.std.proofs.Common.{length}
use Rattle.answer_rows.proofs.comparing.+cmp_by_keys.Given as goal

abbrev pub decreases-cmp_by_keys : goal.decreases-cmp_by_keys
decreases-cmp_by_keys g l = length l.keys.now
