use Rattle.trailcheck.proofs.Accepted.{accepted_means_same}
use Rattle.trailcheck.proofs.laws.law_accepted_means_same.Goals as goal

pub returns : goal.returns
returns c = accepted_means_same
