-- Fields that were copied.
use Rattle.std.specs.Prelude.{◌≤◌, drop, length}
use Rattle.csv_records.specs.Fields.{EndsWithin, fields_from, start_after}
use Rattle.csv_records.specs.Partial.{Partial}
use Rattle.csv_records.specs.declared.copied.Copied.TheInside.{Inside}

abbrev pub copied_of : Inside → Partial
copied_of a = record { fields = fields_from a.bytes.items 0 a.ends.items; field = drop (start_after 0 a.ends.items) a.bytes.items }

-- the fields end within the bytes, and the next one starts there
abbrev pub AreCopied : Inside → Type 0
AreCopied a = EndsWithin (length a.bytes.items) 0 a.ends.items × (start_after 0 a.ends.items ≤ length a.bytes.items)
