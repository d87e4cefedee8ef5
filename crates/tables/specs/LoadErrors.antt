-- The column and the line of a load error.
use Rattle.std.specs.Prelude.{ℕ, List, [], ◌++◌, codes, Option, None, Some, slice_get}
use Rattle.std.specs.Fmt.{decimal}
use Rattle.value.specs.Columns.{Column}
use Rattle.value.specs.Names.{Name}
use Rattle.tables.specs.declared.LoadError.{LoadError}
use Rattle.tables.specs.declared.LoadError.TheVariants as load

abbrev pub name_at : Option Column → Name
name_at None = []
name_at (Some column) = column.name

-- the name of the column of an error; empty for an error of no column
abbrev pub column_name : List Column → LoadError → Name
column_name columns load.Header = []
column_name columns (load.Reader row) = []
column_name columns (load.Cell row index) = name_at (slice_get columns index)
column_name columns (load.NotNull row index) = name_at (slice_get columns index)
column_name columns load.TooMany = []

abbrev pub in_row : ℕ → List ℕ
in_row row = codes " row " ++ decimal row

abbrev pub in_column : Name → List ℕ
in_column column = codes " column " ++ column

-- the line of an error of a table, by the name of its column; rows count from 1, and row 0 is the header
abbrev pub load_error_line : Name → Name → LoadError → List ℕ
load_error_line table column load.Header = codes "data " ++ table ++ codes " header"
load_error_line table column (load.Reader row) = codes "data " ++ table ++ in_row row
load_error_line table column (load.Cell row index) = codes "data " ++ table ++ in_row row ++ in_column column
load_error_line table column (load.NotNull row index) = codes "data " ++ table ++ in_row row ++ in_column column ++ codes " null"
load_error_line table column load.TooMany = codes "data " ++ table ++ codes " limit"
