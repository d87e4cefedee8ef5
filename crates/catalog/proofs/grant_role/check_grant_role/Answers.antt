use Rattle.std.proofs.Common.{◌≡◌, ◌&&◌, ◌∙◌, true, false, List, Some, None, map, refl, sym, ap, true≢false}
use Rattle.std.proofs.lemmas.Bool.{and_from, and_left, and_right}
use Rattle.value.specs.declared.refusal.Refusal.TheVariants as r
use Rattle.value.specs.Names.{Name}
use Rattle.row_objects.specs.Memberships.{Membership, closes_loop}
use Rattle.row_objects.specs.MembershipView.{membership_of}
use Rattle.catalog.specs.Catalog.{Catalog, is_role, is_superuser}
use Rattle.catalog.specs.Checks.{first_refusal}
use Rattle.catalog.specs.GrantRole.{checks_grant_role}
use Rattle.catalog.proofs.grant_role.check_grant_role.Goals.{then-is_role, else-is_role}
use Rattle.catalog.proofs.grant_role.check_grant_role.Goals as goal

module _ (cat : Catalog) (actor group member : Name) where
  no_superuser : false ≡ is_superuser cat actor → Some r.InsufficientPrivilege ≡ first_refusal (checks_grant_role cat actor group member)
  no_superuser other = rw (← other) refl

  module _ (superuser : true ≡ is_superuser cat actor) where
    no_role : false ≡ (is_role cat group && is_role cat member) → Some r.UndefinedObject ≡ first_refusal (checks_grant_role cat actor group member)
    no_role other = rw (← superuser, ← other) refl

    module _ (roles : true ≡ (is_role cat group && is_role cat member)) (ms : List Membership) (these : ms ≡ cat.memberships) where
      loop : true ≡ closes_loop ms group member → Some r.InvalidGrantOperation ≡ first_refusal (checks_grant_role cat actor group member)
      loop closes = rw (← superuser, ← roles, ← these, ← closes) refl

      none_refuses : false ≡ closes_loop ms group member → None ≡ first_refusal (checks_grant_role cat actor group member)
      none_refuses none = rw (← superuser, ← roles, ← these, ← none) refl

pub returns-then-not-is_superuser : goal.returns-then-not-is_superuser
returns-then-not-is_superuser g c = no_superuser c.args.catalog.now c.args.actor.now c.args.group.now c.args.member.now c.if-not-is_superuser.ensures

pub returns-then-not-is_role : goal.returns-then-not-is_role
returns-then-not-is_role g c = no_role c.args.catalog.now c.args.actor.now c.args.group.now c.args.member.now c.if-not-is_superuser.ensures (elim c.if-is_role.branch [
  | then-is_role w ↦ sym (and_right (is_role c.args.catalog.now c.args.group.now) (is_role c.args.catalog.now c.args.member.now) (sym w.is_role-then-is_role.ensures ∙ sym w.value-is ∙ c.if-not-is_role.true))
  | else-is_role w ↦ sym (and_left (is_role c.args.catalog.now c.args.group.now) (is_role c.args.catalog.now c.args.member.now) (sym c.is_role.ensures ∙ w.if-is_role.false))
])

pub returns-then-closes_loop : goal.returns-then-closes_loop
returns-then-closes_loop g c = loop c.args.catalog.now c.args.actor.now c.args.group.now c.args.member.now c.if-not-is_superuser.ensures (elim c.if-is_role.branch [
  | then-is_role w ↦ sym (and_from (is_role c.args.catalog.now c.args.group.now) (is_role c.args.catalog.now c.args.member.now) (sym c.is_role.ensures ∙ w.if-is_role.true) (sym w.is_role-then-is_role.ensures ∙ sym w.value-is ∙ c.if-not-is_role.false))
  | else-is_role w ↦ absurd (true≢false (sym c.if-not-is_role.false ∙ w.value-is ∙ w.if-is_role.false))
]) (map (λ m. membership_of m) c.as_slice.result.now)
    (ap (λ ms. map (λ m. membership_of m) ms) c.as_slice.ensures.value ∙ ap (λ (k : Catalog). k.memberships) c.catalog.view_is) c.if-closes_loop.ensures

pub returns-else-closes_loop : goal.returns-else-closes_loop
returns-else-closes_loop g c = none_refuses c.args.catalog.now c.args.actor.now c.args.group.now c.args.member.now c.if-not-is_superuser.ensures (elim c.if-is_role.branch [
  | then-is_role w ↦ sym (and_from (is_role c.args.catalog.now c.args.group.now) (is_role c.args.catalog.now c.args.member.now) (sym c.is_role.ensures ∙ w.if-is_role.true) (sym w.is_role-then-is_role.ensures ∙ sym w.value-is ∙ c.if-not-is_role.false))
  | else-is_role w ↦ absurd (true≢false (sym c.if-not-is_role.false ∙ w.value-is ∙ w.if-is_role.false))
]) (map (λ m. membership_of m) c.as_slice.result.now)
    (ap (λ ms. map (λ m. membership_of m) ms) c.as_slice.ensures.value ∙ ap (λ (k : Catalog). k.memberships) c.catalog.view_is) c.if-closes_loop.ensures
