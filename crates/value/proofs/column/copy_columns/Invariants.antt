use Rattle.std.proofs.Common.{◌≡◌, ◌++◌, drop, map}
use Rattle.value.specs.Columns.{column_of}
use Rattle.value.proofs.column.copy_columns.Given as goal

abbrev pub invariant-loop-column : goal.invariant-loop-column
invariant-loop-column g l = map (λ c. column_of c) l.copy ++ map (λ c. column_of c) (drop l.column-index l.columns) ≡ map (λ c. column_of c) l.columns
