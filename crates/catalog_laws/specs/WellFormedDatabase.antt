-- Well-formed databases, and those that statements and loads make.
use Rattle.std.specs.Prelude.{◌≡◌, List, All, Some, Ok}
use Rattle.tables.specs.Loading.{Fields, TableRows}
use Rattle.value.specs.Names.{Name}
use Rattle.row_ast.specs.Statements.{Statement}
use Rattle.row_objects.specs.Objects.{Table}
use Rattle.catalog.specs.Catalog.{table_named}
use Rattle.store.specs.Agreement.{Agrees}
use Rattle.store.specs.Database.{Database, at_start, changed_database, rows_of}
use Rattle.store.specs.Loads.{IsLoad}
use Rattle.catalog_laws.specs.FittingRows.{FitsColumns, IsWellFormedContents}
use Rattle.catalog_laws.specs.WellFormed.{IsWellFormed}

-- the catalogue is well formed, the contents agree with it, and the rows of each table fit its columns
pub record IsWellFormedDatabase (database : Database) : Type 0 where
  pub catalog : IsWellFormed database.catalog
  pub agrees : Agrees database
  pub contents : All (λ table. IsWellFormedContents table.1) database.tables

-- each row of a table of the catalogue fits the columns of the table
abbrev pub RowsFit : Type 0
RowsFit = (database : Database) (name : Name) (t : Table) → IsWellFormedDatabase database → table_named name database.catalog ≡ Some t → All (FitsColumns t.columns) (rows_of database name)

-- ---- the laws

-- a statement that is not refused keeps it
abbrev pub StatementsKeep : Type 0
StatementsKeep = (database new : Database) (actor : Name) (statement : Statement) → IsWellFormedDatabase database → changed_database database actor statement ≡ Ok new → IsWellFormedDatabase new

-- a load keeps it
abbrev pub LoadsKeep : Type 0
LoadsKeep = (database : Database) (tables : List (Name × TableRows)) (name : Name) (recs : List Fields) → IsWellFormedDatabase database → IsLoad database.tables tables name recs (Ok tt) → IsWellFormedDatabase record database { tables = tables }

-- the database comes of that at the start by statements and loads, one after another, none of them refused
pub data Arises : Database → Type 0 where
  Starts : Arises at_start
  Changes : (old new : Database) (actor : Name) (statement : Statement) → Arises old → changed_database old actor statement ≡ Ok new → Arises new
  Loads : (old : Database) (tables : List (Name × TableRows)) (name : Name) (recs : List Fields) → Arises old → IsLoad old.tables tables name recs (Ok tt) → Arises record old { tables = tables }

-- each such database is well formed
abbrev pub ArisesWellFormed : Type 0
ArisesWellFormed = (database : Database) → Arises database → IsWellFormedDatabase database
