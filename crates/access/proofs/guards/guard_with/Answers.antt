use Rattle.std.proofs.Common.{map, refl}
use Rattle.row_objects.specs.View.{policy_of, table_of}
use Rattle.access.proofs.Chosen.{by_policies, shown_of}
use Rattle.access.proofs.guards.guard_with.Goals as goal

pub returns-else-bypasses_policies-clause-value : goal.returns-else-bypasses_policies-clause-value
returns-else-bypasses_policies-clause-value g c =
    by_policies c.args.catalog.now c.args.role.now (table_of c.args.table) c.guard_by.result (map (λ p. policy_of p) c.policies.result.now) c.policies.ensures c.if-bypasses_policies.ensures c.guard_by.ensures.value

pub returns-else-bypasses_policies-clause-shows : goal.returns-else-bypasses_policies-clause-shows
returns-else-bypasses_policies-clause-shows g c =
    shown_of c.args.catalog.now c.args.role.now (table_of c.args.table) c.guard_by.result (map (λ p. policy_of p) c.policies.result.now) c.policies.ensures c.guard_by.ensures.movable
    (by_policies c.args.catalog.now c.args.role.now (table_of c.args.table) c.guard_by.result (map (λ p. policy_of p) c.policies.result.now) c.policies.ensures c.if-bypasses_policies.ensures c.guard_by.ensures.value)

pub returns-then-bypasses_policies-clause-value : goal.returns-then-bypasses_policies-clause-value
returns-then-bypasses_policies-clause-value g c = rw (← c.if-bypasses_policies.ensures) refl

pub returns-then-bypasses_policies-clause-shows : goal.returns-then-bypasses_policies-clause-shows
returns-then-bypasses_policies-clause-shows g c = λ row. rw (← c.if-bypasses_policies.ensures) refl
