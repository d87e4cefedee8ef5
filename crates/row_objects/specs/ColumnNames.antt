-- The columns that names resolve to.
use Rattle.std.specs.Prelude.{ℕ, Bool, true, false, ◌||◌, List, [], ◌∷◌, Option, Some, None, is_some}
use Rattle.std.specs.Str.{bytes_eq}
use Rattle.std.specs.List.{find, list_all, list_any, position_from}
use Rattle.value.specs.Columns.{Column}
use Rattle.value.specs.Names.{Name}

abbrev pub column_named : Name → List Column → Option Column
column_named name columns = find (λ column. bytes_eq name column.name) columns

-- the index of the column of that name
abbrev pub column_index : List Column → Name → Option ℕ
column_index columns name = position_from (λ column. bytes_eq name column.name) 0 columns

-- the name before the dot, if there is one, is the table's
abbrev pub is_qualified : Name → Option Name → Bool
is_qualified table None = true
is_qualified table (Some name) = bytes_eq name table

-- no list of columns, or each is one of the table's
abbrev pub are_columns : List Column → Option (List Name) → Bool
are_columns columns None = true
are_columns columns (Some names) = list_all (λ name. is_some (column_named name columns)) names

abbrev pub has_name : Name → List Column → Bool
has_name name columns = list_any (λ column. bytes_eq name column.name) columns

abbrev pub has_name_twice : List Column → Bool
has_name_twice [] = false
has_name_twice (column ∷ columns) = has_name column.name columns || has_name_twice columns
