use Rattle.std.proofs.Common.{◌≡◌, drop, map}
use Rattle.value.specs.Columns.{column_of}
use Rattle.row_objects.specs.ColumnNames.{has_name_twice}
use Rattle.row_objects.proofs.names.has_name_twice.Given as goal

abbrev pub invariant-loop-i : goal.invariant-loop-i
invariant-loop-i g l = has_name_twice (map (λ c. column_of c) (drop l.i l.columns)) ≡ has_name_twice (map (λ c. column_of c) l.columns)
