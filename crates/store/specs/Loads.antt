-- The loading of records into a table of the store.
use Rattle.std.specs.Prelude.{◌≡◌, ◌-◌, ℕ, List, ◌++◌, length, Option, Some, None, Result, Ok, Err, ⊤}
use Rattle.std.specs.List.{find}
use Rattle.value.specs.Datum.{Row}
use Rattle.memory.specs.declared.failure.Failure.{Failure}
use Rattle.memory.specs.declared.failure.Failure.TheVariants.{Error, OutOfMemory}
use Rattle.csv_records.specs.Left.{records_of}
use Rattle.tables.specs.declared.TheConstants.{MAX_ROWS}
use Rattle.tables.specs.Loading.{TableRows, Fields, StopsAfterGood, load_of}
use Rattle.tables.specs.declared.LoadError.{LoadError}
use Rattle.tables.specs.declared.LoadError.TheVariants as faults
use Rattle.value.specs.Names.{Name}
use Rattle.catalog.specs.Checks.{first_changed}
use Rattle.store.specs.declared.store.StoreError.{StoreError}
use Rattle.store.specs.declared.store.StoreError.TheVariants as errors
use Rattle.store.specs.Database.{is_named}

abbrev pub with_rows : List Row → Name × TableRows → Name × TableRows
with_rows rows table = (table.0, record { columns = table.1.columns; rows = table.1.rows ++ rows })

-- the result of the records of a text for a table: its rows, or the first load error
abbrev pub due_rows : TableRows → List Fields → Result (List Row) LoadError
due_rows t recs = load_of t.columns (MAX_ROWS - length t.rows) recs

-- there is a table of that name
abbrev pub IsThere : List (Name × TableRows) → Name → Type 0
IsThere tables name = (table : Name × TableRows) × (find (is_named name) tables ≡ Some table)

-- the failure of a load into the store, of that of the load into its table
abbrev pub store_failure : Failure LoadError → Failure StoreError
store_failure (Error e) = Error (errors.Data e)
store_failure OutOfMemory = OutOfMemory

-- the result of a load into the store, of that of the load into its table
abbrev pub store_result : Result (Unit {0}) (Failure LoadError) → Result (Unit {0}) (Failure StoreError)
store_result (Ok u) = Ok u
store_result (Err failure) = Err (store_failure failure)

-- A load of records into the table of that name: the rows of the records come to the table's; or else nothing changes,
-- and the first error of the records is reported, unless memory ran out.
abbrev pub IsLoad : List (Name × TableRows) → List (Name × TableRows) → Name → List Fields → Result (Unit {0}) (Failure StoreError) → Type 0
IsLoad old new name recs (Ok u) =
    (table : Name × TableRows) × (rows : List Row) × (find (is_named name) old ≡ Some table) × (due_rows table.1 recs ≡ Ok rows) × (new ≡ first_changed (is_named name) (with_rows rows) old)
IsLoad old new name recs (Err (Error errors.UndefinedTable)) = find (is_named name) old ≡ None
IsLoad old new name recs (Err (Error (errors.Data e))) = (table : Name × TableRows) × (find (is_named name) old ≡ Some table) × (due_rows table.1 recs ≡ Err e)
IsLoad old new name recs (Err OutOfMemory) = IsThere old name

-- a row was not read, and the rows of the table before it are there and without error
abbrev pub LoadStops : List (Name × TableRows) → Name → List Fields → Result (Unit {0}) (Failure StoreError) → Type 0
LoadStops old name recs (Ok u) = ⊤
LoadStops old name recs (Err (Error errors.UndefinedTable)) = ⊤
LoadStops old name recs (Err (Error (errors.Data e))) =
    (table : Name × TableRows) × (find (is_named name) old ≡ Some table) × StopsAfterGood {Y = Unit {0}} table.1.columns (MAX_ROWS - length table.1.rows) recs (Err (Error e))
LoadStops old name recs (Err OutOfMemory) = IsThere old name

-- the first error of records that a reader gives; a read may fail in any row
abbrev pub IsFirstFault : Result (List Row) LoadError → LoadError → Type 0
IsFirstFault due faults.Header = due ≡ Err faults.Header
IsFirstFault due (faults.Reader row) = ⊤
IsFirstFault due (faults.Cell row column) = due ≡ Err (faults.Cell row column)
IsFirstFault due (faults.NotNull row column) = due ≡ Err (faults.NotNull row column)
IsFirstFault due faults.TooMany = due ≡ Err faults.TooMany

-- the same load of records that a reader gives
abbrev pub LoadsRows : List (Name × TableRows) → List (Name × TableRows) → Name → List Fields → Result (Unit {0}) (Failure StoreError) → Type 0
LoadsRows old new name recs (Ok u) = IsLoad old new name recs (Ok u)
LoadsRows old new name recs (Err (Error errors.UndefinedTable)) = find (is_named name) old ≡ None
LoadsRows old new name recs (Err (Error (errors.Data e))) = (table : Name × TableRows) × (find (is_named name) old ≡ Some table) × IsFirstFault (due_rows table.1 recs) e
LoadsRows old new name recs (Err OutOfMemory) = IsThere old name

-- A load of the bytes of a reader, where they are known; else of some records.
abbrev pub IsLoadFrom : Option (List ℕ) → List (Name × TableRows) → List (Name × TableRows) → Name → Result (Unit {0}) (Failure StoreError) → Type 0
IsLoadFrom None old new name result = (recs : List Fields) × LoadsRows old new name recs result
IsLoadFrom (Some bytes) old new name result = LoadsRows old new name (records_of bytes) result × LoadStops old name (records_of bytes) result
