use Rattle.std.proofs.Common.{length}
use Rattle.rewrite.proofs.arranging.+push_opening.Given as goal

abbrev pub decreases-push_opening : goal.decreases-push_opening
decreases-push_opening g l = length l.entries.now
