-- The rows that cells hold.
use Rattle.std.specs.Prelude.{ℕ, ◌+◌, ◌≤◌, ◌<◌, ◌≡◌, ◌++◌, ⊤, List, map, take, drop, length, All}
use Rattle.value.specs.Datum.{Datum, null, int, bool, Row, cell}
use Rattle.answer_rows.specs.Growing.{Growing}
use Rattle.answer_rows.specs.declared.cells.Cell.{Cell}
use Rattle.answer_rows.specs.declared.cells.Cell.TheVariants as code
use Rattle.answer_rows.specs.declared.cells.Place.{Place}
use Rattle.answer_rows.specs.declared.row.AnswerRow.TheInside as row
use Rattle.answer_rows.specs.declared.rows.AnswerRows.TheInside as rows

-- a value, with its text among some
abbrev pub value_in : List Datum → Cell → Datum
value_in texts code.Null = null
value_in texts (code.Int n) = int n
value_in texts (code.Text i) = cell texts i
value_in texts (code.Bool b) = bool b

abbrev pub values_in : List Datum → List Cell → Row
values_in texts cells = map (value_in texts) cells

-- the values that stand at a place
abbrev pub row_in : List Datum → List Cell → Place → Row
row_in texts cells place = values_in texts (take place.len (drop place.start cells))

abbrev pub rows_in : List Datum → List Cell → List Place → List Row
rows_in texts cells places = map (row_in texts cells) places

abbrev pub values_of : {A : Type 0} → row.Inside A → Row
values_of r = values_in r.texts.now r.cells.now

abbrev pub growing_of : {A : Type 0} → rows.Inside A → Growing
growing_of s = record { rows = rows_in s.texts s.cells.items s.places.items; unfinished = values_in s.texts s.unfinished.items }

-- a text is one of the first n
abbrev pub IsAmong : ℕ → Cell → Type 0
IsAmong n (code.Text i) = i < n
IsAmong n code.Null = ⊤
IsAmong n (code.Int m) = ⊤
IsAmong n (code.Bool b) = ⊤

-- all values of a place are among the first n
abbrev pub IsWithin : ℕ → Place → Type 0
IsWithin n place = place.start + place.len ≤ n

-- each text is there, those of finished rows before those of the unfinished one, and each place is within the cells
pub record AreRows {A : Type 0} (s : rows.Inside A) : Type 0 where
  pub few : s.finished_texts ≤ length s.texts
  pub texts : All (IsAmong s.finished_texts) s.cells.items
  pub unfinished : All (IsAmong (length s.texts)) s.unfinished.items
  pub places : All (IsWithin (length s.cells.items)) s.places.items

-- a cell of a value, whose text, if it has one, is put after others
pub record IsPutIn (before after : List Datum) (c : Cell) (d : Datum) : Type 0 where
  pub more : List Datum
  pub texts : after ≡ before ++ more
  pub among : IsAmong (length after) c
  pub value : value_in after c ≡ d
