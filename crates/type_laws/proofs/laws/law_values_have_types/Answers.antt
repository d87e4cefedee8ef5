use Rattle.type_laws.proofs.Values.{gives}
use Rattle.type_laws.proofs.laws.law_values_have_types.Goals as goal

pub returns : goal.returns
returns c = gives
