-- Indexes on the columns of a table.
use Rattle.std.specs.Prelude.{◌≡◌, ℕ, ◌-◌, List, All, IsPermutation, IsSorted, length, map}
use Rattle.std.specs.List.{range_with_len}
use Rattle.std.specs.Ordering.{on}
use Rattle.indexes.specs.declared.index.IndexRows.{IndexRows}
use Rattle.value.specs.Datum.{Row, cell, row_at}
use Rattle.value.specs.Orders.{datum_cmp}

-- the numbers of all rows, ascending by their cells in a column, nulls last
abbrev pub IsIndex : List Row → (column : ℕ) → (numbers : List ℕ) → Type 0
IsIndex rows column numbers = IsPermutation (range_with_len 0 (length rows)) numbers × IsSorted (on (λ n. cell (row_at rows n) column) datum_cmp) numbers

-- the index on the column of this number, which counts from 1
abbrev pub IsIndexOn : {A : Type 0} → List Row → (column : ℕ) → IndexRows A → Type 0
IsIndexOn rows column index = (index.column ≡ column) × IsIndex rows (index.column - 1) index.numbers

-- the indexes on columns of these numbers, which count from 1
abbrev pub AreIndexes : {A : Type 0} → List Row → (columns : List ℕ) → List (IndexRows A) → Type 0
AreIndexes rows columns indexes = (map (λ i. i.column) indexes ≡ columns) × All (λ i. IsIndex rows (i.column - 1) i.numbers) indexes
