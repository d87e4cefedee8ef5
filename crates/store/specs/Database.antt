-- A catalogue with the contents of its tables.
use Rattle.std.specs.Prelude.{Bool, List, [], ◌∷◌, ◌++◌, option_map, Option, Some, None, Result, Ok, Err}
use Rattle.std.specs.Str.{bytes_eq}
use Rattle.std.specs.List.{find}
use Rattle.value.specs.Columns.{Column}
use Rattle.value.specs.Datum.{Row}
use Rattle.value.specs.declared.refusal.Refusal.{Refusal}
use Rattle.tables.specs.Loading.{TableRows}
use Rattle.value.specs.Names.{Name}
use Rattle.row_ast.specs.Statements.{Statement, CreateTable}
use Rattle.catalog.specs.Catalog.{Catalog, at_first}
use Rattle.catalog.specs.Changes.{changed}

-- the rows of each table, by its name
abbrev pub Rows : Type 0
Rows = Name → List Row

-- a catalogue, and the contents of each table with its name, in order of creation
pub record Database : Type 0 where
  pub catalog : Catalog
  pub tables : List (Name × TableRows)

-- the table has that name
abbrev pub is_named : Name → Name × TableRows → Bool
is_named name table = bytes_eq table.0 name

-- the contents of the first table of that name
abbrev pub contents_named : List (Name × TableRows) → Name → Option TableRows
contents_named tables name = option_map (λ table. table.1) (find (is_named name) tables)

-- a table that is not there has no rows
abbrev pub rows_held : Option TableRows → List Row
rows_held None = []
rows_held (Some contents) = contents.rows

abbrev pub columns_held : Option TableRows → List Column
columns_held None = []
columns_held (Some contents) = contents.columns

abbrev pub columns_in : List (Name × TableRows) → Name → List Column
columns_in tables name = columns_held (contents_named tables name)

-- the rows of each table of the database
abbrev pub rows_of : Database → Rows
rows_of database name = rows_held (contents_named database.tables name)

-- the catalogue at first, and no table
abbrev pub at_start : Database
at_start = record { catalog = at_first; tables = [] }

-- ---- statements

-- a new table has no rows
abbrev pub empty_table : List Column → TableRows
empty_table columns = record { columns = columns; rows = [] }

abbrev pub tables_after : List (Name × TableRows) → Statement → List (Name × TableRows)
tables_after tables (CreateTable name columns) = tables ++ (name, empty_table columns) ∷ []
tables_after tables _ = tables

abbrev pub with_catalog : Database → Statement → Result Catalog Refusal → Result Database Refusal
with_catalog database statement (Ok cat) = Ok record { catalog = cat; tables = tables_after database.tables statement }
with_catalog database statement (Err why) = Err why

-- the database after a statement, or its refusal
abbrev pub changed_database : Database → Name → Statement → Result Database Refusal
changed_database database actor statement = with_catalog database statement (changed database.catalog actor statement)
