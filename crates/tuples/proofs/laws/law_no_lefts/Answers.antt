use Rattle.expr.proofs.Conjoined.{no_left_ons}
use Rattle.tuples.proofs.laws.law_no_lefts.Goals as goal

pub returns-clause-ons : goal.returns-clause-ons
returns-clause-ons g q = no_left_ons q
