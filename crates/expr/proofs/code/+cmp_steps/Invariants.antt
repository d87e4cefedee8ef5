use Rattle.std.proofs.Common.{length}
use Rattle.expr.proofs.code.+cmp_steps.Given as goal

abbrev pub decreases-cmp_steps : goal.decreases-cmp_steps
decreases-cmp_steps l = length l.steps.now
