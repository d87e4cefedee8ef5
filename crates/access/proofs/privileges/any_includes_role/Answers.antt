use Rattle.std.proofs.Common.{◌∙◌, ap, refl}
use Rattle.std.specs.List.{list_any}
use Rattle.access.specs.Access.{includes_role}
use Rattle.access.proofs.Walks.{found, none_left, not_found}
use Rattle.access.proofs.privileges.any_includes_role.Goals as goal

pub loop-name-preserved : goal.loop-name-preserved
loop-name-preserved g c =
    not_found (includes_role c.args.catalog.now c.args.role.now) (list_any (includes_role c.args.catalog.now c.args.role.now)) (λ x xs. refl) c.args.names.now c.loop-name.name-index c.loop-name.invariant
    c.name-item.result c.loop-name-test.true c.name-item.is (c.if-includes_role.ensures ∙ ap (includes_role c.args.catalog.now c.args.role.now) c.as_str.ensures)

pub returns-then-includes_role : goal.returns-then-includes_role
returns-then-includes_role g c =
    found (includes_role c.args.catalog.now c.args.role.now) (list_any (includes_role c.args.catalog.now c.args.role.now)) (λ x xs. refl) c.args.names.now c.loop-name.name-index c.loop-name.invariant
    c.name-item.result c.loop-name-test.true c.name-item.is (c.if-includes_role.ensures ∙ ap (includes_role c.args.catalog.now c.args.role.now) c.as_str.ensures)

pub returns : goal.returns
returns g c = none_left (includes_role c.args.catalog.now c.args.role.now) (list_any (includes_role c.args.catalog.now c.args.role.now)) (λ x xs. refl) c.args.names.now c.loop-name.name-index c.loop-name.invariant refl c.loop-name-test.false
