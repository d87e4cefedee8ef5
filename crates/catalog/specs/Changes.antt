-- The changes of schema statements.
use Rattle.std.specs.Prelude.{◌≡◌, ◌⊎◌, ℕ, ◌+◌, nat_le, Bool, true, false, not, List, ◌∷◌, Result, Ok, Err}
use Rattle.value.specs.declared.refusal.Refusal.{Refusal}
use Rattle.value.specs.declared.refusal.Refusal.TheVariants as r
use Rattle.value.specs.Names.{Name}
use Rattle.row_ast.specs.Statements.{Statement, CreateRole, GrantRole, RevokeRole, CreateTable, SetOwner, SetRowSecurity, CreateIndex, GrantSelect, RevokeSelect, CreatePolicy, DropPolicy}
use Rattle.catalog.specs.Catalog.{Catalog, is_role}
use Rattle.catalog.specs.Checks.{Check, first_refusal, unless}
use Rattle.catalog.specs.CreateRole.{checks_create_role, after_create_role}
use Rattle.catalog.specs.GrantRole.{checks_grant_role, after_grant_role}
use Rattle.catalog.specs.RevokeRole.{checks_revoke_role, after_revoke_role}
use Rattle.catalog.specs.CreateTable.{checks_create_table, after_create_table}
use Rattle.catalog.specs.SetOwner.{checks_set_owner, after_set_owner}
use Rattle.catalog.specs.RowSecurity.{checks_row_security, after_row_security}
use Rattle.catalog.specs.GrantSelect.{checks_select, after_grant_select}
use Rattle.catalog.specs.RevokeSelect.{after_revoke_select}
use Rattle.catalog.specs.CreatePolicy.{checks_create_policy, after_create_policy}
use Rattle.catalog.specs.DropPolicy.{checks_drop_policy, after_drop_policy}
use Rattle.catalog.specs.CreateIndex.{checks_create_index, after_create_index}

-- the checks of a statement, by an actor that is a role
abbrev pub checks : Catalog → Name → Statement → List Check
checks cat actor (CreateRole name superuser bypass_rls) = checks_create_role cat actor name
checks cat actor (GrantRole group member) = checks_grant_role cat actor group member
checks cat actor (RevokeRole group member) = checks_revoke_role cat actor group member
checks cat actor (CreateTable name columns) = checks_create_table cat name columns
checks cat actor (SetOwner table owner) = checks_set_owner cat actor table owner
checks cat actor (SetRowSecurity table setting) = checks_row_security cat actor table
checks cat actor (GrantSelect grant) = checks_select cat actor grant
checks cat actor (RevokeSelect grant) = checks_select cat actor grant
checks cat actor (CreatePolicy policy) = checks_create_policy cat actor policy
checks cat actor (DropPolicy name table) = checks_drop_policy cat actor name table
checks cat actor (CreateIndex name table column) = checks_create_index cat actor name table column

-- the catalogue after a statement that is not refused
abbrev pub after : Catalog → Name → Statement → Catalog
after cat actor (CreateRole name superuser bypass_rls) = after_create_role cat name superuser bypass_rls
after cat actor (GrantRole group member) = after_grant_role cat group member
after cat actor (RevokeRole group member) = after_revoke_role cat group member
after cat actor (CreateTable name columns) = after_create_table cat actor name columns
after cat actor (SetOwner table owner) = after_set_owner cat table owner
after cat actor (SetRowSecurity table setting) = after_row_security cat table setting
after cat actor (GrantSelect grant) = after_grant_select cat grant
after cat actor (RevokeSelect grant) = after_revoke_select cat grant
after cat actor (CreatePolicy policy) = after_create_policy cat policy
after cat actor (DropPolicy name table) = after_drop_policy cat name table
after cat actor (CreateIndex name table column) = after_create_index cat name table column

-- the most statements that are accepted
abbrev pub most_changes : ℕ
most_changes = 18446744073709551615

-- one more accepted statement than before
abbrev pub counted : Catalog → Catalog → Catalog
counted before cat = record cat { change_number = before.change_number + 1 }

-- the catalogue after a statement, or its refusal: that as many were accepted as may be comes first, then that the actor is
-- no role
abbrev pub changed : Catalog → Name → Statement → Result Catalog Refusal
changed cat actor statement = unless (first_refusal (
    (nat_le most_changes cat.change_number, r.ProgramLimitExceeded)
    ∷ (not (is_role cat actor), r.UndefinedObject)
    ∷ checks cat actor statement)) (counted cat (after cat actor statement))

-- the new state and the result of a call are those that are due, or memory ran out and nothing changed
abbrev pub IsChange : {X : Type 0} → X → X → Result X Refusal → Result (Unit {0}) Refusal → Type 0
IsChange old new due (Ok u) = due ≡ Ok new
IsChange old new due (Err why) = (new ≡ old) × ((why ≡ r.OutOfMemory) ⊎ (due ≡ Err why))

-- the new state and the result of a call are those that are due
abbrev pub IsExactChange : {X : Type 0} → X → X → Result X Refusal → Result (Unit {0}) Refusal → Type 0
IsExactChange old new due (Ok u) = due ≡ Ok new
IsExactChange old new due (Err why) = (new ≡ old) × (due ≡ Err why)

-- a statement that only takes out or sets, so that memory cannot run out
abbrev pub takes_no_memory : Statement → Bool
takes_no_memory (RevokeRole group member) = true
takes_no_memory (SetRowSecurity table setting) = true
takes_no_memory (RevokeSelect grant) = true
takes_no_memory (DropPolicy name table) = true
takes_no_memory _ = false
