use Rattle.trailcheck.proofs.Same.{decides}
use Rattle.trailcheck.proofs.laws.law_same_term_is_equal.Goals as goal

pub returns : goal.returns
returns c = decides
