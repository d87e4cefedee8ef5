use Rattle.std.proofs.Common.{◌≡◌, drop, map}
use Rattle.value.specs.Columns.{column_of}
use Rattle.row_objects.specs.ColumnNames.{has_name}
use Rattle.row_objects.proofs.names.has_name.Given as goal

abbrev pub invariant-loop-column : goal.invariant-loop-column
invariant-loop-column g l = has_name l.name (map (λ c. column_of c) (drop l.column-index l.columns)) ≡ has_name l.name (map (λ c. column_of c) l.columns)
