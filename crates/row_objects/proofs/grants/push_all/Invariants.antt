use Rattle.std.proofs.Common.{◌≡◌, drop, map}
use Rattle.row_objects.specs.Grants.{with_grants, grants_to_all, IsFront}
use Rattle.row_objects.specs.View.{grant_of}
use Rattle.row_objects.proofs.grants.push_all.Given as goal

abbrev pub invariant-loop-role : goal.invariant-loop-role
invariant-loop-role g l = record {
  so_far : with_grants (map (λ g. grant_of g) l.grants.items) (grants_to_all l.columns (drop l.role-index l.roles)) ≡ with_grants (map (λ g. grant_of g) l.fn.grants.items) (grants_to_all l.columns l.roles);
  front : IsFront l.fn.grants.items l.grants.items;
}
