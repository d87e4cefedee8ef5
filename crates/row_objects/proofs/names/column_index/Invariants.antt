use Rattle.std.proofs.Common.{◌≡◌, drop, map}
use Rattle.std.specs.Str.{bytes_eq}
use Rattle.std.specs.List.{position_from}
use Rattle.value.specs.Columns.{column_of}
use Rattle.row_objects.specs.ColumnNames.{column_index}
use Rattle.row_objects.proofs.names.column_index.Given as goal

abbrev pub invariant-loop-i : goal.invariant-loop-i
invariant-loop-i g l = position_from (λ column. bytes_eq l.name column.name) l.i (map (λ c. column_of c) (drop l.i l.columns)) ≡ column_index (map (λ c. column_of c) l.columns) l.name
