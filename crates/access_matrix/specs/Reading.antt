-- What a role reads of the tables of a database: rows, and columns.
use Rattle.std.specs.Prelude.{ℕ, Bool, false, ◌&&◌, if◌then◌else◌, List, [], Option, Some, None, map, filter, slice_get}
use Rattle.std.specs.Str.{bytes_eq}
use Rattle.std.specs.List.{list_any}
use Rattle.value.specs.Datum.{Row}
use Rattle.value.specs.Names.{Name}
use Rattle.row_objects.specs.Objects.{Table}
use Rattle.catalog.specs.Catalog.{Catalog, is_role, table_named}
use Rattle.access.specs.Access.{granted, sees, select_on}
use Rattle.access.specs.Needed.{select_any}
use Rattle.store.specs.Database.{Database, rows_of}

-- ---- of a table

-- the role sees the row, and has SELECT on some part of the table
abbrev pub reads : Catalog → Name → Table → Row → Bool
reads cat role t row = granted cat role (select_any t) && sees cat role t row

-- the names of the columns on which it has SELECT, in order
abbrev pub read_columns : Catalog → Name → Table → List Name
read_columns cat role t = filter (λ name. granted cat role (select_on t name)) (map (λ c. c.name) t.columns)

-- ---- of a table of a database by its name; nothing where the role or the table is not there

abbrev pub reads_of : Catalog → Name → Option Table → Option Row → Bool
reads_of cat role (Some t) (Some row) = reads cat role t row
reads_of cat role (Some t) None = false
reads_of cat role None row = false

-- the role reads something of the row of that number in the file of the table, counted from 0
abbrev pub reads_row : Database → (role table : Name) → ℕ → Bool
reads_row db role table number = is_role db.catalog role && reads_of db.catalog role (table_named table db.catalog) (slice_get (rows_of db table) number)

abbrev pub columns_of_table : Catalog → Name → Option Table → List Name
columns_of_table cat role None = []
columns_of_table cat role (Some t) = read_columns cat role t

-- the columns of the table that the role reads
abbrev pub columns_read : Database → (role table : Name) → List Name
columns_read db role table = if is_role db.catalog role then columns_of_table db.catalog role (table_named table db.catalog) else []

-- the role reads the cell of that row and that column
abbrev pub reads_cell : Database → (role table : Name) → ℕ → (column : Name) → Bool
reads_cell db role table number column = reads_row db role table number && list_any (bytes_eq column) (columns_read db role table)
