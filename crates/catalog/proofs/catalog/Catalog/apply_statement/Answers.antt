use Rattle.std.proofs.Common.{◌≡◌, inr, true, false, map, Result, Ok, Err, refl, sym, ap, ◌∙◌, true≢false}
use Rattle.value.specs.Columns.{column_of}
use Rattle.value.specs.declared.refusal.Refusal.{Refusal}
use Rattle.value.specs.Names.{Name}
use Rattle.row_ast.specs.Statements.{Statement, CreateRole, GrantRole, RevokeRole, CreateTable, SetOwner, SetRowSecurity, CreateIndex, GrantSelect, RevokeSelect, CreatePolicy, DropPolicy}
use Rattle.row_ast.specs.View.{statement_of}
use Rattle.catalog.specs.Catalog.{Catalog}
use Rattle.catalog.specs.Checks.{first_refusal, unless}
use Rattle.catalog.specs.Changes.{after, checks, takes_no_memory, IsChange, IsExactChange}
use Rattle.catalog.proofs.catalog.Catalog.apply_statement.Goals as goal

module _ (old new : Catalog) (actor : Name) (result : Result (Unit {0}) Refusal) where
  abbrev Change : Statement → Type 0
  Change s = IsChange old new (unless (first_refusal (checks old actor s)) (after old actor s)) result

  abbrev Exact : Statement → Type 0
  Exact s = IsExactChange old new (unless (first_refusal (checks old actor s)) (after old actor s)) result

  is_change : (due : Result Catalog Refusal) (result : Result (Unit {0}) Refusal) → IsExactChange old new due result → IsChange old new due result
  is_change due (Ok u) h = h
  is_change due (Err why) h = (h.0, inr h.1)

  -- a statement that may take memory, and one that takes none
  of_some : (s t : Statement) → s ≡ t → takes_no_memory t ≡ false → Change t → Change s × (takes_no_memory s ≡ true → Exact s)
  of_some s t is some h = rw is (h, λ none. absurd (true≢false (sym none ∙ some)))

  of_none : (s t : Statement) → s ≡ t → Exact t → Change s × (takes_no_memory s ≡ true → Exact s)
  of_none s t is h = rw is (is_change (unless (first_refusal (checks old actor t)) (after old actor t)) result h, λ none. h)

pub returns-in-CreateRole : goal.returns-in-CreateRole
returns-in-CreateRole g c =
    let d = of_some c.args.self.now c.create_role.new.self c.args.actor.now c.create_role.result (statement_of c.args.statement.now) (CreateRole c.as_str.result.now c.in-CreateRole.superuser c.in-CreateRole.bypass_rls)
    (ap (λ s. statement_of s) c.in-CreateRole.is ∙ ap (λ x. CreateRole x c.in-CreateRole.superuser c.in-CreateRole.bypass_rls) (sym c.as_str.ensures)) refl c.create_role.ensures in
    record { change = d.0; exact = d.1 }

pub returns-in-GrantRole : goal.returns-in-GrantRole
returns-in-GrantRole g c =
    let d = of_some c.args.self.now c.grant_role.new.self c.args.actor.now c.grant_role.result (statement_of c.args.statement.now) (GrantRole c.as_str-in-GrantRole.result.now c.as_str-in-GrantRole-2.result.now)
    (ap (λ s. statement_of s) c.in-GrantRole.is ∙ ap (λ x. GrantRole x c.in-GrantRole.member) (sym c.as_str-in-GrantRole.ensures) ∙ ap (λ x. GrantRole c.as_str-in-GrantRole.result.now x) (sym c.as_str-in-GrantRole-2.ensures)) refl c.grant_role.ensures in
    record { change = d.0; exact = d.1 }

pub returns-in-RevokeRole : goal.returns-in-RevokeRole
returns-in-RevokeRole g c =
    let d = of_none c.args.self.now c.revoke_role.new.self c.args.actor.now c.revoke_role.result (statement_of c.args.statement.now) (RevokeRole c.as_str-in-RevokeRole.result.now c.as_str-in-RevokeRole-2.result.now)
    (ap (λ s. statement_of s) c.in-RevokeRole.is ∙ ap (λ x. RevokeRole x c.in-RevokeRole.member) (sym c.as_str-in-RevokeRole.ensures) ∙ ap (λ x. RevokeRole c.as_str-in-RevokeRole.result.now x) (sym c.as_str-in-RevokeRole-2.ensures)) c.revoke_role.ensures in
    record { change = d.0; exact = d.1 }

pub returns-in-CreateTable : goal.returns-in-CreateTable
returns-in-CreateTable g c =
    let d = of_some c.args.self.now c.create_table.new.self c.args.actor.now c.create_table.result (statement_of c.args.statement.now) (CreateTable c.as_str-in-CreateTable.result.now (map (λ y. column_of y) c.as_slice.result.now))
    (ap (λ s. statement_of s) c.in-CreateTable.is ∙ ap (λ x. CreateTable x (map (λ y. column_of y) c.in-CreateTable.columns)) (sym c.as_str-in-CreateTable.ensures) ∙ ap (λ x. CreateTable c.as_str-in-CreateTable.result.now (map (λ y. column_of y) x)) (sym c.as_slice.ensures)) refl c.create_table.ensures in
    record { change = d.0; exact = d.1 }

pub returns-in-SetOwner : goal.returns-in-SetOwner
returns-in-SetOwner g c =
    let d = of_some c.args.self.now c.set_owner.new.self c.args.actor.now c.set_owner.result (statement_of c.args.statement.now) (SetOwner c.as_str-in-SetOwner.result.now c.as_str-in-SetOwner-2.result.now)
    (ap (λ s. statement_of s) c.in-SetOwner.is ∙ ap (λ x. SetOwner x c.in-SetOwner.owner) (sym c.as_str-in-SetOwner.ensures) ∙ ap (λ x. SetOwner c.as_str-in-SetOwner.result.now x) (sym c.as_str-in-SetOwner-2.ensures)) refl c.set_owner.ensures in
    record { change = d.0; exact = d.1 }

pub returns-in-SetRowSecurity : goal.returns-in-SetRowSecurity
returns-in-SetRowSecurity g c =
    let d = of_none c.args.self.now c.set_row_security.new.self c.args.actor.now c.set_row_security.result (statement_of c.args.statement.now) (SetRowSecurity c.as_str-in-SetRowSecurity.result.now c.in-SetRowSecurity.setting)
    (ap (λ s. statement_of s) c.in-SetRowSecurity.is ∙ ap (λ x. SetRowSecurity x c.in-SetRowSecurity.setting) (sym c.as_str-in-SetRowSecurity.ensures)) c.set_row_security.ensures in
    record { change = d.0; exact = d.1 }

pub returns-in-GrantSelect : goal.returns-in-GrantSelect
returns-in-GrantSelect g c =
    let d = of_some c.args.self.now c.grant_select.new.self c.args.actor.now c.grant_select.result (statement_of c.args.statement.now) (GrantSelect _)
    (ap (λ s. statement_of s) c.in-GrantSelect.is) refl c.grant_select.ensures in
    record { change = d.0; exact = d.1 }

pub returns-in-RevokeSelect : goal.returns-in-RevokeSelect
returns-in-RevokeSelect g c =
    let d = of_none c.args.self.now c.revoke_select.new.self c.args.actor.now c.revoke_select.result (statement_of c.args.statement.now) (RevokeSelect _)
    (ap (λ s. statement_of s) c.in-RevokeSelect.is) c.revoke_select.ensures in
    record { change = d.0; exact = d.1 }

pub returns-in-CreatePolicy : goal.returns-in-CreatePolicy
returns-in-CreatePolicy g c =
    let d = of_some c.args.self.now c.create_policy.new.self c.args.actor.now c.create_policy.result (statement_of c.args.statement.now) (CreatePolicy _)
    (ap (λ s. statement_of s) c.in-CreatePolicy.is) refl c.create_policy.ensures in
    record { change = d.0; exact = d.1 }

pub returns-in-DropPolicy : goal.returns-in-DropPolicy
returns-in-DropPolicy g c =
    let d = of_none c.args.self.now c.drop_policy.new.self c.args.actor.now c.drop_policy.result (statement_of c.args.statement.now) (DropPolicy c.as_str-in-DropPolicy.result.now c.as_str-in-DropPolicy-2.result.now)
    (ap (λ s. statement_of s) c.in-DropPolicy.is ∙ ap (λ x. DropPolicy x c.in-DropPolicy.table) (sym c.as_str-in-DropPolicy.ensures) ∙ ap (λ x. DropPolicy c.as_str-in-DropPolicy.result.now x) (sym c.as_str-in-DropPolicy-2.ensures)) c.drop_policy.ensures in
    record { change = d.0; exact = d.1 }

pub returns-in-CreateIndex : goal.returns-in-CreateIndex
returns-in-CreateIndex g c =
    let d = of_some c.args.self.now c.create_index.new.self c.args.actor.now c.create_index.result (statement_of c.args.statement.now) (CreateIndex c.as_str-in-CreateIndex.result.now c.as_str-in-CreateIndex-2.result.now c.as_str-in-CreateIndex-3.result.now)
    (ap (λ s. statement_of s) c.in-CreateIndex.is ∙ ap (λ x. CreateIndex x c.in-CreateIndex.table c.in-CreateIndex.column) (sym c.as_str-in-CreateIndex.ensures) ∙ ap (λ x. CreateIndex c.as_str-in-CreateIndex.result.now x c.in-CreateIndex.column) (sym c.as_str-in-CreateIndex-2.ensures) ∙ ap (λ x. CreateIndex c.as_str-in-CreateIndex.result.now c.as_str-in-CreateIndex-2.result.now x) (sym c.as_str-in-CreateIndex-3.ensures)) refl c.create_index.ensures in
    record { change = d.0; exact = d.1 }
