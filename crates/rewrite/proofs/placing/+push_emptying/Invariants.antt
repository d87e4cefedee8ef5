use Rattle.std.proofs.Common.{length}
use Rattle.rewrite.proofs.placing.+push_emptying.Given as goal

abbrev pub decreases-push_emptying : goal.decreases-push_emptying
decreases-push_emptying g l = length l.conditions.now
