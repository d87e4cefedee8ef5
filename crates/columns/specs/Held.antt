-- The rows that the fields of rows hold.
use Rattle.std.specs.Prelude.{ℕ, ◌≡◌, ◌+◌, ◌<◌, ◌≤◌, List, [], length, map, take, get_or}
use Rattle.value.specs.Datum.{Datum}
use Rattle.columns.specs.Data.{cells_of, type_of}
use Rattle.columns.specs.Rows.{TypedRows, row_across, rows_from}
use Rattle.columns.specs.declared.rows.Rows.TheInside.{Inside}

abbrev pub rows_in : {A : Type 0} → Inside A → TypedRows
rows_in table = record {
  types = map type_of table.columns.items;
  rows = rows_from (map cells_of table.columns.items) 0 table.len;
  unfinished = take table.started (row_across (map cells_of table.columns.items) table.len);
}

-- each column has a value for each row, and the first of them have one of the unfinished row too
pub record HoldRows (len started : ℕ) (columns : List (List Datum)) : Type 0 where
  pub within : started ≤ length columns
  pub begun : (k : ℕ) → k < started → length (get_or columns k []) ≡ len + 1
  pub others : (k : ℕ) → started ≤ k → k < length columns → length (get_or columns k []) ≡ len

abbrev pub AreRows : {A : Type 0} → Inside A → Type 0
AreRows table = HoldRows table.len table.started (map cells_of table.columns.items)
