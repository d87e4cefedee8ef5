use Rattle.std.proofs.Common.{map, ◌∙◌, sym, ap}
use Rattle.std.proofs.lemmas.List.{drop_all}
use Rattle.access.specs.Access.{denial}
use Rattle.access.specs.View.{privilege_of}
use Rattle.access.proofs.Passed.{missing, passed}
use Rattle.access.proofs.privileges.denied.Goals as goal

pub loop-privilege-preserved : goal.loop-privilege-preserved
loop-privilege-preserved g c =
    passed c.args.catalog.now c.args.role.now (λ p. privilege_of p) c.args.needed.now c.loop-privilege.privilege-index c.privilege-item.result c.loop-privilege-test.true c.privilege-item.is (denial c.args.catalog.now c.args.role.now (map (λ p. privilege_of p) c.args.needed.now)) c.loop-privilege.invariant (sym c.if-not-is_granted_by.ensures)

pub returns-then-not-is_granted_by : goal.returns-then-not-is_granted_by
returns-then-not-is_granted_by g c =
    missing c.args.catalog.now c.args.role.now (λ p. privilege_of p) c.args.needed.now c.loop-privilege.privilege-index c.privilege-item.result c.loop-privilege-test.true c.privilege-item.is (denial c.args.catalog.now c.args.role.now (map (λ p. privilege_of p) c.args.needed.now)) c.loop-privilege.invariant (sym c.if-not-is_granted_by.ensures)

pub returns : goal.returns
returns g c =
    ap (λ xs. denial c.args.catalog.now c.args.role.now (map (λ p. privilege_of p) xs)) (sym (drop_all c.loop-privilege.privilege-index c.args.needed.now c.loop-privilege-test.false)) ∙ c.loop-privilege.invariant
