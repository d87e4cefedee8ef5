use Rattle.std.proofs.Common.{length}
use Rattle.rewrite.proofs.arranging.+push_ordering.Given as goal

abbrev pub decreases-push_ordering : goal.decreases-push_ordering
decreases-push_ordering g l = length l.wanted.now
