use Rattle.csv_records.proofs.FieldFacts.{no_fields, none_hold}
use Rattle.csv_records.proofs.copied.Copied.clear.Goals as goal

pub invariant_of-self : goal.invariant_of-self
invariant_of-self c = none_hold c.clear-2.new.self.items c.clear.new.self.items c.clear.ensures.items

pub returns-clause-fields : goal.returns-clause-fields
returns-clause-fields c = no_fields c.clear-2.new.self.items c.clear.new.self.items c.clear.ensures.items
