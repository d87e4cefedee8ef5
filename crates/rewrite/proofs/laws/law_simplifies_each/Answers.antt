use Rattle.rewrite.proofs.SimplifiedTerm.{simplifies_each}
use Rattle.rewrite.proofs.laws.law_simplifies_each.Goals as goal

pub returns : goal.returns
returns c = simplifies_each
