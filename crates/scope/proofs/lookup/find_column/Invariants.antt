use Rattle.std.proofs.Common.{◌≡◌, ◌||◌, drop, map}
use Rattle.std.specs.List.{cons_option}
use Rattle.row_ast.specs.View.{column_ref_of}
use Rattle.scope.specs.View.{entry_of}
use Rattle.scope.specs.Lookup.{find_column, matches, means_some, one_column}
use Rattle.scope.proofs.lookup.find_column.Given as goal

abbrev pub invariant-loop-number : goal.invariant-loop-number
invariant-loop-number g l =
    one_column l.offset (l.is_named || means_some l.scope (column_ref_of l.column) l.number (map (λ e. entry_of e) (drop l.number l.entries))) (cons_option l.found (matches l.scope (column_ref_of l.column) l.number (map (λ e. entry_of e) (drop l.number l.entries))))
    ≡ find_column (map (λ e. entry_of e) l.entries) l.scope (column_ref_of l.column)
