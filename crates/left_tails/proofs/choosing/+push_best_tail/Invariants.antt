use Rattle.std.proofs.Common.{length}
use Rattle.left_tails.proofs.choosing.+push_best_tail.Given as goal

abbrev pub decreases-push_best_tail : goal.decreases-push_best_tail
decreases-push_best_tail g l = length l.lefts.now
