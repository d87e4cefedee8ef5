-- The indexes of tables.
use Rattle.std.specs.Prelude.{ℕ, ◌==◌, Bool, List, Option, option_map}
use Rattle.std.specs.Str.{bytes_eq}
use Rattle.std.specs.List.{list_any}
use Rattle.value.specs.Columns.{Column}
use Rattle.value.specs.Names.{Name}
use Rattle.row_objects.specs.Objects.{Index, Table}
use Rattle.row_objects.specs.ColumnNames.{column_index}

abbrev pub has_index : Name → List Index → Bool
has_index name indexes = list_any (λ i. bytes_eq name i.name) indexes

-- one of the tables has an index of that name
abbrev pub any_index : Name → List Table → Bool
any_index name tables = list_any (λ t. has_index name t.indexes) tables

-- the column has an index
abbrev pub is_indexed : ℕ → List Index → Bool
is_indexed column indexes = list_any (λ i. i.column == column) indexes

-- the index, if its column is among the columns, as it is where no check refused it
abbrev pub new_index : Name → Name → List Column → Option Index
new_index name column columns = option_map (λ index. record { name = name; column = index }) (column_index columns column)
