-- The contents of a database and its catalogue.
use Rattle.std.specs.Prelude.{◌≡◌, List, map, Some}
use Rattle.value.specs.Columns.{Column}
use Rattle.tables.specs.Loading.{TableRows}
use Rattle.value.specs.Names.{Name}
use Rattle.row_objects.specs.Objects.{Table}
use Rattle.catalog.specs.Catalog.{table_named}
use Rattle.catalog.specs.TableColumns.{table_columns}
use Rattle.store.specs.Database.{Database, contents_named}

-- the name of each table with the columns of its contents
abbrev pub contents_columns : List (Name × TableRows) → List (Name × List Column)
contents_columns tables = map (λ table. (table.0, table.1.columns)) tables

-- the contents at each index have the name and the columns of the table at that index of the catalogue
abbrev pub Agrees : Database → Type 0
Agrees database = contents_columns database.tables ≡ table_columns database.catalog

-- there are contents of that name, with the columns of the table
abbrev pub HasContents : List (Name × TableRows) → Name → Table → Type 0
HasContents tables name t = (contents : TableRows) × (contents_named tables name ≡ Some contents) × (contents.columns ≡ t.columns)

-- each table of the catalogue has its contents
abbrev pub HasEachContents : Type 0
HasEachContents = (database : Database) (name : Name) (t : Table) → Agrees database → table_named name database.catalog ≡ Some t → HasContents database.tables name t
