use Rattle.std.proofs.Common.{length}
use Rattle.rewrite.proofs.arranging.+push_arranging.Given as goal

abbrev pub decreases-push_arranging : goal.decreases-push_arranging
decreases-push_arranging g l = length l.lefts.now
