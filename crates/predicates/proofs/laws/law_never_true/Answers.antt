use Rattle.predicates.proofs.Sides.{never_true}
use Rattle.predicates.proofs.laws.law_never_true.Goals as goal

pub returns : goal.returns
returns c = never_true
