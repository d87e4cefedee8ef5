use Rattle.predicates.proofs.Sides.{equality_turns}
use Rattle.predicates.proofs.laws.law_equality_turns.Goals as goal

pub returns : goal.returns
returns c = equality_turns
