-- The rows that the records of a text give, or the first load error.
use Rattle.std.specs.Prelude.{ℕ, zero, suc, ◌+◌, ◌<◌, ◌≤◌, ◌==◌, ◌&&◌, ◌≡◌, ◌≢◌, Bool, true, false, List, [], ◌∷◌, ◌++◌, length, take, Option, is_none, Result, Ok, Err, IfErr, All, if◌then◌else◌, ⊤}
use Rattle.std.specs.Str.{bytes_eq, is_utf8}
use Rattle.value.specs.declared.types.FaultKind.{FaultKind}
use Rattle.value.specs.Datum.{Datum, null, Row}
use Rattle.value.specs.Columns.{Column}
use Rattle.value.specs.Texts.{IsNoNullMark, null_mark, value_at}
use Rattle.csv_records.specs.declared.RecordError.{RecordError}
use Rattle.memory.specs.Results.{first_then}
use Rattle.memory.specs.declared.failure.Failure.{Failure}
use Rattle.memory.specs.declared.failure.Failure.TheVariants.{Error, OutOfMemory}
use Rattle.tables.specs.declared.LoadError.{LoadError}
use Rattle.tables.specs.declared.LoadError.TheVariants as error

-- a table's columns and rows
pub record TableRows : Type 0 where
  pub columns : List Column
  pub rows : List Row

-- the fields of a record, each as its bytes
abbrev pub Fields : Type 0
Fields = List (List ℕ)

-- a text that is not a value of the type is reported with its row and column
abbrev pub placed : ℕ → ℕ → Result Datum FaultKind → Result Datum LoadError
placed row column (Ok d) = Ok d
placed row column (Err k) = Err (error.Cell row column)

-- a cell: null, or the value that its text spells
abbrev pub cell_of : Column → ℕ → ℕ → List ℕ → Result Datum LoadError
cell_of c row column f =
    if bytes_eq f null_mark then (if c.not_null then Err (error.NotNull row column) else Ok null)
    else if is_utf8 f then placed row column (value_at c.data_type f) else Err (error.Cell row column)

-- the cells of a row, from a column on
unfoldable pub cells_of : List Column → ℕ → ℕ → Fields → Result Row LoadError
cells_of [] row column fs = Ok []
cells_of (c ∷ cs) row column [] = Err (error.Reader row)
cells_of (c ∷ cs) row column (f ∷ fs) = first_then (cell_of c row column f) (cells_of cs row (column + 1) fs)

-- the rows of records, from a row on, where there is room for so many
unfoldable pub rows_of : List Column → ℕ → ℕ → List Fields → Result (List Row) LoadError
rows_of cols room row [] = Ok []
rows_of cols zero row (r ∷ rs) = if length r == length cols then Err error.TooMany else Err (error.Reader row)
rows_of cols (suc room) row (r ∷ rs) =
    if length r == length cols then first_then (cells_of cols row 0 r) (rows_of cols room (row + 1) rs) else Err (error.Reader row)

-- the fields are the names of the columns, in order
unfoldable pub names : List Column → Fields → Bool
names [] [] = true
names [] (f ∷ fs) = false
names (c ∷ cs) [] = false
names (c ∷ cs) (f ∷ fs) = bytes_eq f c.name && names cs fs

-- the rows of records whose first one is the names of the columns
abbrev pub load_of : List Column → ℕ → List Fields → Result (List Row) LoadError
load_of cols room [] = Err error.Header
load_of cols room (h ∷ rs) = if names cols h then rows_of cols room 1 rs else Err error.Header

-- no value that a load gives has the text of the null mark
abbrev pub NoTextIsNull : Type 0
NoTextIsNull = (cols : List Column) (room : ℕ) (recs : List Fields) (rows : List Row) → load_of cols room recs ≡ Ok rows → All (λ row. All IsNoNullMark row) rows

-- the error that is reported where the record of a row was not read
abbrev pub reported : Failure RecordError → ℕ → Failure LoadError
reported (Error why) row = Error (error.Reader row)
reported OutOfMemory row = OutOfMemory

-- an error that is sure to be one of the records: a row that was not read is one if no read failed
abbrev pub is_fault : Option (Failure RecordError) → LoadError → Bool
is_fault failure error.Header = true
is_fault failure (error.Reader row) = is_none failure
is_fault failure (error.Cell row column) = true
is_fault failure (error.NotNull row column) = true
is_fault failure error.TooMany = true

-- a call gives the stated result, where it is sure to be of the records, unless memory ran out
abbrev pub Follows : {X Y : Type 0} → (Y → X) → Option (Failure RecordError) → Result X LoadError → Result Y (Failure LoadError) → Type 0
Follows view failure stated (Ok y) = stated ≡ Ok (view y)
Follows view failure stated (Err (Error e)) = is_fault failure e ≡ true → stated ≡ Err e
Follows view failure stated (Err OutOfMemory) = ⊤

-- rows after those that are there, or the error
abbrev pub appended : List Row → Result (List Row) LoadError → Result (List Row) LoadError
appended old (Ok rows) = Ok (old ++ rows)
appended old (Err e) = Err e

-- the fact holds, unless the error is that a row was not read
abbrev pub UnlessUnread : {Y : Type 0} → Result Y (Failure LoadError) → Type 0 → Type 0
UnlessUnread (Ok y) fact = fact
UnlessUnread (Err e) fact = ((row : ℕ) → e ≢ Error (error.Reader row)) → fact

-- a row was not read, and the header and the rows before it are there and without error
abbrev pub StopsAfterGood : {Y : Type 0} → List Column → ℕ → List Fields → Result Y (Failure LoadError) → Type 0
StopsAfterGood cols room recs result =
    IfErr result (λ e. (row : ℕ) → e ≡ Error (error.Reader row) → 0 < row → (row ≤ length recs) × (rows : List Row) × (load_of cols room (take row recs) ≡ Ok rows))
