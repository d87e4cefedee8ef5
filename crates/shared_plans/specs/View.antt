-- What keys are.
use Rattle.std.specs.Prelude.{string_bytes}
use Rattle.shared_plans.specs.declared.key.PlanKey.{PlanKey}
use Rattle.shared_plans.specs.Recent.{Key}

abbrev pub key_of : {A : Type 0} → PlanKey A → Key
key_of k = record { text = string_bytes k.text; role = string_bytes k.role; changes = k.changes; loads = k.loads }
