use Rattle.std.proofs.Common.{◌≡◌, drop, map, Some}
use Rattle.row_objects.specs.Grants.{with_grants, grants_to, IsFront}
use Rattle.row_objects.specs.HeldColumns.{AreHeld}
use Rattle.row_objects.specs.View.{grant_of}
use Rattle.row_objects.proofs.grants.push_columns.Given as goal

abbrev pub invariant-loop-column : goal.invariant-loop-column
invariant-loop-column g l = record {
  so_far : with_grants (map (λ g. grant_of g) l.grants.items) (grants_to (Some (drop l.column-index l.columns)) l.to) ≡ with_grants (map (λ g. grant_of g) l.fn.grants.items) (grants_to (Some l.columns) l.to);
  held : AreHeld (map (λ g. grant_of g) l.grants.items) l.to l.held;
  front : IsFront l.fn.grants.items l.grants.items;
}
