use Rattle.std.proofs.Common.{◌≡◌, drop}
use Rattle.std.specs.List.{list_any}
use Rattle.access.specs.Access.{includes_role}
use Rattle.access.proofs.privileges.any_includes_role.Given as goal

abbrev pub invariant-loop-name : goal.invariant-loop-name
invariant-loop-name g l = list_any (includes_role l.catalog l.role) (drop l.name-index l.names) ≡ list_any (includes_role l.catalog l.role) l.names
