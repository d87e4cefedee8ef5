use Rattle.query_laws.proofs.FittingValues.{values_are_of_types}
use Rattle.query_laws.proofs.values.law_admitted_values.Goals as goal

pub returns : goal.returns
returns c = values_are_of_types
