use Rattle.std.proofs.Common.{length}
use Rattle.left_tails.proofs.sizes.+size_with_lefts.Given as goal

abbrev pub decreases-size_with_lefts : goal.decreases-size_with_lefts
decreases-size_with_lefts g l = length l.lefts.now
