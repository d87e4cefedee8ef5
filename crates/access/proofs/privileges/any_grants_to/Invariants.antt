use Rattle.std.proofs.Common.{◌≡◌, ◌&&◌, drop, map}
use Rattle.std.specs.Prelude.{option_map}
use Rattle.std.specs.List.{list_any}
use Rattle.row_objects.specs.View.{grant_of}
use Rattle.access.specs.Access.{includes_role, covers}
use Rattle.access.proofs.privileges.any_grants_to.Given as goal

abbrev pub invariant-loop-grant : goal.invariant-loop-grant
invariant-loop-grant g l =
    list_any (λ h. includes_role l.catalog l.role h.to && covers h.column (option_map (λ c. c.now) l.required)) (map (λ h. grant_of h) (drop l.grant-index l.grants))
    ≡ list_any (λ h. includes_role l.catalog l.role h.to && covers h.column (option_map (λ c. c.now) l.required)) (map (λ h. grant_of h) l.grants)
