use Rattle.type_laws.proofs.Complete.{what_rules_type_is_admitted}
use Rattle.type_laws.proofs.laws.law_what_rules_type_is_admitted.Goals as goal

pub returns : goal.returns
returns c = what_rules_type_is_admitted
