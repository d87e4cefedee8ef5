use Rattle.std.proofs.Common.{length}
use Rattle.rewrite.proofs.placing.+settle_all.Given as goal

abbrev pub decreases-settle_all : goal.decreases-settle_all
decreases-settle_all g l = length l.conditions.now
