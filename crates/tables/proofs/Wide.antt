-- Rows with a value for each column.
use Rattle.std.proofs.Common.{ℕ, ◌≡◌, ◌<◌, ◌≤◌, List, [], length, map, All, ap, subst, ◌∙◌, arith, rules}
use Rattle.std.proofs.lemmas.List.{length-map}
use Rattle.value.specs.Columns.{Column, column_of}
use Rattle.value.specs.Datum.{Row}
use Rattle.value.specs.declared.column.Column as declared
use Rattle.value.specs.declared.types.ColType.{ColType}
use Rattle.columns.specs.Rows.{TypedRows, types_of}
use Rattle.tables.specs.declared.TheConstants.{MAX_ROWS}
use Rattle.tables.specs.Loading.{TableRows}

pub wide_rows : {A : Type 0} (columns : List (declared.Column A)) (rows : List Row) (t : TableRows) → record { columns = map column_of columns; rows = rows } ≡ t → All (λ r. length r ≡ length columns) rows → All (λ r. length r ≡ length t.columns) t.rows
wide_rows columns rows t is wide = subst (λ (x : TableRows). All (λ r. length r ≡ length x.columns) x.rows) is (rw length-map wide)

columns_many : {A : Type 0} (columns : List (declared.Column A)) → length (types_of (map column_of columns)) ≡ length (map column_of columns)
columns_many columns = length-map (map column_of columns) (λ (c : Column). c.data_type)

-- a column of the table, and a row
pub column_within : {A : Type 0} (columns : List (declared.Column A)) (rows : List Row) (t : TableRows) (column : ℕ) (types : List ColType) → record { columns = map column_of columns; rows = rows } ≡ t → types ≡ types_of (map column_of columns) → column < length t.columns
    → column < length types
column_within columns rows t column types is same within = omega (arith, within, ap (λ (x : TableRows). length x.columns) is, ap length same, columns_many columns)

pub row_within : (cols : List Column) (rows : List Row) (t : TableRows) (row : ℕ) → record { columns = cols; rows = rows } ≡ t → row < length t.rows → row < length rows
row_within cols rows t row is within = omega (arith, within, ap (λ (x : TableRows). length x.rows) is)

-- a table with no rows
none_wide : (n : ℕ) (rows : List Row) → rows ≡ [] → All (λ r. length r ≡ n) rows
none_wide n rows none = rw none (search rules)

pub new_holds : {A : Type 0} (columns read : List (declared.Column A)) (rows : TypedRows) → read ≡ columns → rows.types ≡ types_of (map column_of read) → rows.rows ≡ [] → rows.unfinished ≡ []
    → (rows.types ≡ types_of (map column_of columns)) × (rows.unfinished ≡ []) × All (λ r. length r ≡ length columns) rows.rows × (length rows.rows ≤ MAX_ROWS)
new_holds columns read rows same types none finished = (types ∙ ap (λ l. types_of (map column_of l)) same, finished, none_wide (length columns) rows.rows none, omega (arith, ap length none))
