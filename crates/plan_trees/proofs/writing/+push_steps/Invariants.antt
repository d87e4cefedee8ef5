use Rattle.std.proofs.Common.{length}
use Rattle.plan_trees.proofs.writing.+push_steps.Given as goal

abbrev pub decreases-push_steps : goal.decreases-push_steps
decreases-push_steps g l = length l.steps.now
