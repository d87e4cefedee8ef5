use Rattle.std.proofs.Common.{◌&&◌, map, refl}
use Rattle.std.specs.Prelude.{option_map}
use Rattle.std.specs.List.{list_any}
use Rattle.row_objects.specs.View.{grant_of}
use Rattle.access.specs.Access.{includes_role, covers}
use Rattle.access.proofs.Walks.{found, none_left, not_found}
use Rattle.access.proofs.privileges.any_grants_to.Goals as goal

pub loop-grant-preserved : goal.loop-grant-preserved
loop-grant-preserved g c =
    not_found (λ x. includes_role c.args.catalog.now c.args.role.now (grant_of x).to && covers (grant_of x).column (option_map (λ t. t.now) c.args.required))
    (λ xs. list_any (λ h. includes_role c.args.catalog.now c.args.role.now h.to && covers h.column (option_map (λ t. t.now) c.args.required)) (map (λ h. grant_of h) xs)) (λ x xs. refl)
    c.args.grants.now c.loop-grant.grant-index c.loop-grant.invariant c.grant-item.result c.loop-grant-test.true c.grant-item.is c.if-grants_to.ensures

pub returns-then-grants_to : goal.returns-then-grants_to
returns-then-grants_to g c =
    found (λ x. includes_role c.args.catalog.now c.args.role.now (grant_of x).to && covers (grant_of x).column (option_map (λ t. t.now) c.args.required))
    (λ xs. list_any (λ h. includes_role c.args.catalog.now c.args.role.now h.to && covers h.column (option_map (λ t. t.now) c.args.required)) (map (λ h. grant_of h) xs)) (λ x xs. refl)
    c.args.grants.now c.loop-grant.grant-index c.loop-grant.invariant c.grant-item.result c.loop-grant-test.true c.grant-item.is c.if-grants_to.ensures

pub returns : goal.returns
returns g c =
    none_left (λ x. includes_role c.args.catalog.now c.args.role.now (grant_of x).to && covers (grant_of x).column (option_map (λ t. t.now) c.args.required))
    (λ xs. list_any (λ h. includes_role c.args.catalog.now c.args.role.now h.to && covers h.column (option_map (λ t. t.now) c.args.required)) (map (λ h. grant_of h) xs)) (λ x xs. refl)
    c.args.grants.now c.loop-grant.grant-index c.loop-grant.invariant refl c.loop-grant-test.false
