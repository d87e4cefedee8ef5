use Rattle.csv_records.proofs.FieldFacts.{no_fields, none_hold}
use Rattle.csv_records.proofs.copied.Copied.new.Goals as goal

pub invariant_of-result : goal.invariant_of-result
invariant_of-result c = none_hold c.new.result.items c.new-2.result.items c.new-2.ensures.items

pub returns-clause-fields : goal.returns-clause-fields
returns-clause-fields c = no_fields c.new.result.items c.new-2.result.items c.new-2.ensures.items
