use Rattle.std.proofs.Common.{◌∙◌, sym, ap, length}
use Rattle.csv_records.proofs.FieldFacts.{length-fields}
use Rattle.csv_records.proofs.record.Record.len.Goals as goal

pub returns : goal.returns
returns c = sym (length-fields c.self.inside.bytes.now 0 c.self.inside.ends.now) ∙ ap length c.self.view_is
