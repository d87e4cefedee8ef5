use Rattle.std.proofs.Common.{◌≡◌, drop, map}
use Rattle.std.specs.List.{list_all}
use Rattle.catalog.specs.Catalog.{is_role}
use Rattle.access_matrix.proofs.auditing.are_roles.Given as goal

abbrev pub invariant-loop-role : goal.invariant-loop-role
invariant-loop-role g l = list_all (is_role l.catalog) (map (λ r. r.now) (drop l.role-index l.roles)) ≡ list_all (is_role l.catalog) (map (λ r. r.now) l.roles)
