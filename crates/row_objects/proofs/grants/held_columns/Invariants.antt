use Rattle.std.proofs.Common.{◌≡◌, ◌||◌, bytes_eq, drop, map}
use Rattle.std.specs.List.{list_any}
use Rattle.value.specs.Names.{Name}
use Rattle.row_objects.specs.Grants.{has_grant}
use Rattle.row_objects.specs.HeldColumns.{on_column}
use Rattle.row_objects.specs.View.{grant_of}
use Rattle.row_objects.proofs.grants.held_columns.Given as goal

abbrev pub invariant-loop-grant : goal.invariant-loop-grant
invariant-loop-grant g l =
    (column : Name) → (list_any (bytes_eq column) l.held || has_grant (map (λ g. grant_of g) (drop l.grant-index l.grants)) (on_column l.to column)) ≡ has_grant (map (λ g. grant_of g) l.grants) (on_column l.to column)
