use Rattle.std.proofs.Common.{length}
use Rattle.rewrite.proofs.arranging.+push_raising.Given as goal

abbrev pub decreases-push_raising : goal.decreases-push_raising
decreases-push_raising g l = length l.entries.now
