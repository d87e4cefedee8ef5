use Rattle.predicates.proofs.Sides.{equalities_chain}
use Rattle.predicates.proofs.laws.law_equalities_chain.Goals as goal

pub returns : goal.returns
returns c = equalities_chain
