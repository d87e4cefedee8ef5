-- The bytes that a buffer holds.
use Rattle.std.specs.Prelude.{ℕ, ◌≤◌, List, length, slice_range, Option}
use Rattle.std.specs.Io.KnownBytes.{prepend_known}
use Rattle.csv_records.specs.Unread.{Unread}
use Rattle.csv_records.specs.declared.unread.Unread.TheInside.{Inside}

abbrev pub unread_of : {R : Type 0} → (R → Option (List ℕ)) → Inside R → Unread
unread_of remaining a = record { passed = a.at; held = slice_range a.buffer a.at a.filled; left = prepend_known (slice_range a.buffer a.at a.filled) (remaining a.rdr) }

abbrev pub IsBuffer : {R : Type 0} → Inside R → Type 0
IsBuffer a = (a.at ≤ a.filled) × (a.filled ≤ length a.buffer)
