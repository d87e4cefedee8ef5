use Rattle.std.proofs.Common.{◌≡◌, drop, map}
use Rattle.value.specs.Columns.{column_of}
use Rattle.typing.specs.Clauses.{are_grouped}
use Rattle.typing.proofs.clauses.are_grouped.Given as goal

abbrev pub invariant-loop-column : goal.invariant-loop-column
invariant-loop-column g l = are_grouped l.group_by l.entry l.column (map (λ c. column_of c) (drop l.column l.columns)) ≡ are_grouped l.group_by l.entry 0 (map (λ c. column_of c) l.columns)
