use Rattle.type_laws.proofs.Determined.{determined}
use Rattle.type_laws.proofs.laws.law_types_are_determined.Goals as goal

pub returns : goal.returns
returns c = determined
