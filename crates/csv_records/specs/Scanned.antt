-- How far the bytes of a record without quoted fields were gone over.
use Rattle.std.specs.Prelude.{ℕ, ◌≡◌, ◌≤◌, ◌==◌, ◌||◌, ◌++◌, if◌then◌else◌, Bool, List, [], length, drop}
use Rattle.std.specs.List.{slice_range}
use Rattle.csv.specs.Machine.{next_record}
use Rattle.csv.specs.Reading.{default_config}
use Rattle.csv.specs.declared.parser.State.{State}
use Rattle.csv.specs.declared.parser.State.TheVariants as st
use Rattle.csv_records.specs.Fields.{EndsWithin, fields_from, start_after}
use Rattle.csv_records.specs.Records.{ends_line}

-- a comma, a quote, or an end of a line
abbrev pub is_special : ℕ → Bool
is_special byte = (byte == 44) || (byte == 34) || ends_line byte

-- the state before a byte: a record starts, a field starts, or it is in a field
abbrev pub place_at : ℕ → ℕ → State
place_at i start = if i == 0 then st.StartRecord else if i == start then st.StartField else st.InField

-- the bytes before an index are fields that ended, and the first bytes of one that did not
pub record Scanned (bytes ends : List ℕ) (start i : ℕ) : Type 0 where
  pub within : EndsWithin (length bytes) 0 ends
  pub starts : start_after 0 ends ≡ start
  pub behind : start ≤ i
  pub leads : (more : List ℕ) → next_record default_config st.StartRecord [] [] (bytes ++ more) ≡ next_record default_config (place_at i start) (fields_from bytes 0 ends) (slice_range bytes start i) (drop i (bytes ++ more))
