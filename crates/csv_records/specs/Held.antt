-- What a source of records holds.
use Rattle.std.specs.Prelude.{ℕ, ◌≡◌, ◌≤◌, Bool, if◌then◌else◌, false, List, drop, length, Option, None, Some, option_map, IfSome, unwrap_or}
use Rattle.csv.specs.Reading.{strip_bom}
use Rattle.csv.specs.declared.parser.State.TheVariants as st
use Rattle.csv_records.specs.Fields.{EndsWithin, fields_from}
use Rattle.csv_records.specs.Left.{records_after}
use Rattle.csv_records.specs.Source.{Source}
use Rattle.csv_records.specs.Unread.{Unread}
use Rattle.csv_records.specs.declared.source.Source.TheInside.{Inside}

-- the bytes after the line read last, and at the start those after a byte order mark
abbrev pub bytes_left : Bool → Option ℕ → List ℕ → List ℕ
bytes_left started line xs = if started then drop (unwrap_or line 0) xs else strip_bom xs

-- the fields of the record read last: those of the bytes that are held, or those that were copied
abbrev pub last_fields : Option ℕ → List ℕ → List ℕ → List (List ℕ) → List (List ℕ)
last_fields (Some count) held ends copied = fields_from held 0 ends
last_fields None held ends copied = copied

abbrev pub source_of : {R : Type 0} → Inside R → Source
source_of a = record {
  records = option_map (λ xs. records_after st.StartRecord (bytes_left a.started a.line xs)) a.unread.left;
  fields = last_fields a.line a.unread.held a.ends.items a.copied.fields;
}

-- a line that was read is held, and its fields end within the bytes
abbrev pub LineIsHeld : Option ℕ → List ℕ → Type 0
LineIsHeld line held = IfSome line (λ count. count ≤ length held)

-- before the first record nothing was passed over
abbrev pub IsFresh : Bool → Option ℕ → Unread → Type 0
IsFresh started line unread = started ≡ false → (line ≡ None) × (unread.passed ≡ 0)

pub record HoldsLast {R : Type 0} (a : Inside R) : Type 0 where
  pub held : LineIsHeld a.line a.unread.held
  pub ends : IfSome a.line (λ count. EndsWithin (length a.unread.held) 0 a.ends.items)
  pub fresh : IsFresh a.started a.line a.unread
