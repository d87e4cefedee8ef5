use Rattle.std.proofs.Common.{length}
use Rattle.left_tails.proofs.costing.+tail_cost.Given as goal

abbrev pub decreases-tail_cost : goal.decreases-tail_cost
decreases-tail_cost g l = length l.lefts.now
