use Rattle.bound_plans.proofs.Findable.{columns_are_found}
use Rattle.bound_plans.proofs.laws.law_columns_are_found.Goals as goal

pub returns : goal.returns
returns c = columns_are_found
