use Rattle.std.proofs.Common.{length}
use Rattle.rewrite.proofs.turning.+turn_all.Given as goal

abbrev pub decreases-turn_all : goal.decreases-turn_all
decreases-turn_all g l = length l.ons.now
