use Rattle.type_laws.proofs.Admitted.{types_by_rules}
use Rattle.type_laws.proofs.laws.law_types_by_rules.Goals as goal

pub returns : goal.returns
returns c = types_by_rules
