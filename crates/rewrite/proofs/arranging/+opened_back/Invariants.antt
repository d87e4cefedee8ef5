use Rattle.std.proofs.Common.{length}
use Rattle.rewrite.proofs.arranging.+opened_back.Given as goal

abbrev pub decreases-opened_back : goal.decreases-opened_back
decreases-opened_back g l = length l.entries.now
