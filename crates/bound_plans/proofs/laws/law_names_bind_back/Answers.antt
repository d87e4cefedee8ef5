use Rattle.bound_plans.proofs.Back.{names_bind_back}
use Rattle.bound_plans.proofs.laws.law_names_bind_back.Goals as goal

pub returns : goal.returns
returns c = names_bind_back
