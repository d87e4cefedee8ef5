-- The columns of the tables, which no statement changes.
use Rattle.std.specs.Prelude.{◌≡◌, List, [], ◌∷◌, ◌++◌, map, Ok}
use Rattle.value.specs.Columns.{Column}
use Rattle.value.specs.Names.{Name}
use Rattle.row_ast.specs.Statements.{Statement, CreateTable}
use Rattle.row_objects.specs.Objects.{Table}
use Rattle.catalog.specs.Catalog.{Catalog}
use Rattle.catalog.specs.Changes.{changed}

abbrev pub with_columns : Table → Name × List Column
with_columns t = (t.name, t.columns)

-- the name of each table with its columns, in order of creation
abbrev pub table_columns : Catalog → List (Name × List Column)
table_columns cat = map with_columns cat.tables

-- those after a statement: CREATE TABLE adds its own at the end
abbrev pub columns_after : List (Name × List Column) → Statement → List (Name × List Column)
columns_after known (CreateTable name columns) = known ++ (name, columns) ∷ []
columns_after known _ = known

-- a statement adds the table of a CREATE TABLE, and changes no name and no column of another
abbrev pub KeepsColumns : Type 0
KeepsColumns = (cat new : Catalog) (actor : Name) (statement : Statement) → changed cat actor statement ≡ Ok new → table_columns new ≡ columns_after (table_columns cat) statement
