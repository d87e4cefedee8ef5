use Rattle.std.proofs.Common.{◌≡◌, drop, map}
use Rattle.value.specs.Columns.{column_of}
use Rattle.row_objects.specs.ColumnNames.{column_named}
use Rattle.row_objects.proofs.names.column_named.Given as goal

abbrev pub invariant-loop-column : goal.invariant-loop-column
invariant-loop-column g l = column_named l.name (map (λ c. column_of c) (drop l.column-index l.columns)) ≡ column_named l.name (map (λ c. column_of c) l.columns)
