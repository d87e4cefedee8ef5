use Rattle.std.proofs.Common.{length}
use Rattle.joindp.proofs.searching.+are_no_later.Given as goal

abbrev pub decreases-are_no_later : goal.decreases-are_no_later
decreases-are_no_later l = length l.steps.now
