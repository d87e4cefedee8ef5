use Rattle.std.proofs.Common.{◌≡◌, ◌++◌, drop, map}
use Rattle.value.specs.Datum as value
use Rattle.row_objects.specs.View.{table_of}
use Rattle.scope.specs.View.{entry_of}
use Rattle.access.specs.Access.{sees}
use Rattle.access.specs.Guards.{frame}
use Rattle.tuples.specs.Guards.{shows}
use Rattle.tuples.specs.View.{guard_of}
use Rattle.access.proofs.guards.frame.Given as goal

abbrev pub invariant-loop-entry : goal.invariant-loop-entry
invariant-loop-entry g l =
    (map guard_of l.guards ++ frame l.catalog l.role (map (λ e. entry_of e) (drop l.entry-index l.entries)) ≡ frame l.catalog l.role (map (λ e. entry_of e) l.entries))
    × ((row : value.Row) → map (λ g. shows l.role (guard_of g) row) l.guards ++ map (λ e. sees l.catalog l.role (table_of e.table) row) (drop l.entry-index l.entries) ≡ map (λ e. sees l.catalog l.role (table_of e.table) row) l.entries)
