-- Lent fields.
use Rattle.std.specs.Prelude.{ℕ, List, length}
use Rattle.csv_records.specs.Fields.{EndsWithin, fields_from}
use Rattle.csv_records.specs.declared.record.Record.TheInside.{Inside}

abbrev pub fields_in : Inside → List (List ℕ)
fields_in a = fields_from a.bytes.now 0 a.ends.now

abbrev pub AreFields : Inside → Type 0
AreFields a = EndsWithin (length a.bytes.now) 0 a.ends.now
