use Rattle.query_laws.proofs.LeftRows.{combinations_are_of_rows}
use Rattle.query_laws.proofs.values.law_combinations_are_of_rows.Goals as goal

pub returns : goal.returns
returns c = combinations_are_of_rows
