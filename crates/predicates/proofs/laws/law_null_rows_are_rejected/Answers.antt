use Rattle.predicates.proofs.Rejects.{rejected}
use Rattle.predicates.proofs.laws.law_null_rows_are_rejected.Goals as goal

pub returns : goal.returns
returns c = rejected
