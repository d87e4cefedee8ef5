use Rattle.std.proofs.Common.{◌≡◌, drop, map}
use Rattle.scope.specs.View.{entry_of}
use Rattle.row_ast.specs.View.{column_ref_of}
use Rattle.memory.specs.Results.{on_each}
use Rattle.scope.specs.Lookup.{find_column}
use Rattle.scope.proofs.Found.{each_after}
use Rattle.resolve.proofs.queries.bind_columns.Given as goal

abbrev pub invariant-loop-column : goal.invariant-loop-column
invariant-loop-column g l = each_after (find_column (map (λ e. entry_of e) l.entries) l.scope) l.ids (map (λ c. column_ref_of c) (drop l.column-index l.columns)) ≡ on_each (find_column (map (λ e. entry_of e) l.entries) l.scope) (map (λ c. column_ref_of c) l.columns)
