use Rattle.query_laws.proofs.LeftJoins.{left_joins_are_bound}
use Rattle.query_laws.proofs.left_joins.law_left_joins.Goals as goal

pub returns : goal.returns
returns c = left_joins_are_bound
