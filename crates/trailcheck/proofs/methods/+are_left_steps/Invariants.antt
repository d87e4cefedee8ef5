use Rattle.std.proofs.Common.{length}
use Rattle.trailcheck.proofs.methods.+are_left_steps.Given as goal

abbrev pub decreases-are_left_steps : goal.decreases-are_left_steps
decreases-are_left_steps g l = length l.ons.now
