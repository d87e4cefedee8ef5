use Rattle.std.proofs.Common.{◌≡◌, drop, map, option_copied}
use Rattle.std.specs.List.{list_any}
use Rattle.row_objects.specs.Grants.{same_grant}
use Rattle.row_objects.specs.View.{grant_of}
use Rattle.row_objects.proofs.grants.has_grant.Given as goal

abbrev pub invariant-loop-grant : goal.invariant-loop-grant
invariant-loop-grant g l =
    list_any (λ h. same_grant h (record { to = l.to; column = option_copied l.column })) (map (λ g. grant_of g) (drop l.grant-index l.grants))
    ≡ list_any (λ h. same_grant h (record { to = l.to; column = option_copied l.column })) (map (λ g. grant_of g) l.grants)
