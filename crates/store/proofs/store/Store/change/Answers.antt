use Rattle.std.proofs.Common.{◌≡◌, ℕ, List, None, refl}
use Rattle.memory.specs.declared.text.Items.{Items}
use Rattle.memory.specs.declared.text.Text.{Text}
use Rattle.value.specs.declared.column.Column as declared
use Rattle.value.specs.Columns.{Column}
use Rattle.value.specs.Names.{Name}
use Rattle.row_ast.specs.View.{statement_of}
use Rattle.row_ast.specs.declared.statement.Statement.{Statement}
use Rattle.row_ast.specs.declared.statement.Statement.TheVariants.{CreateRole, GrantRole, RevokeRole, CreateTable, SetOwner, SetRowSecurity, CreateIndex, GrantSelect, RevokeSelect, CreatePolicy, DropPolicy}
use Rattle.catalog.specs.TableColumns.{columns_after}
use Rattle.store.specs.Statements.{new_index_of}
use Rattle.store.proofs.Agreement.{still_agrees}
use Rattle.store.proofs.Indexes.{indexes_after, still_indexed}
use Rattle.store.proofs.store.Store.change.Goals as goal

-- only CREATE TABLE adds columns
none_added : {A : Type 0} (known : List (Name × List Column)) (s : Statement A) → ((name : Text A) (columns : Items (declared.Column A) A) → s ≡ CreateTable name columns → ⊥) → columns_after known (statement_of s) ≡ known
none_added known (CreateRole name superuser bypass_rls) other = refl
none_added known (GrantRole group member) other = refl
none_added known (RevokeRole group member) other = refl
none_added known (CreateTable name columns) other = absurd (other name columns refl)
none_added known (SetOwner table owner) other = refl
none_added known (SetRowSecurity table setting) other = refl
none_added known (CreateIndex name table column) other = refl
none_added known (GrantSelect grant) other = refl
none_added known (RevokeSelect grant) other = refl
none_added known (CreatePolicy policy) other = refl
none_added known (DropPolicy name table) other = refl

-- nor another statement an index
no_index : {A : Type 0} (s : Statement A) → ((name table column : Text A) → s ≡ CreateIndex name table column → ⊥) → new_index_of (statement_of s) ≡ None
no_index (CreateRole name superuser bypass_rls) other = refl
no_index (GrantRole group member) other = refl
no_index (RevokeRole group member) other = refl
no_index (CreateTable name columns) other = refl
no_index (SetOwner table owner) other = refl
no_index (SetRowSecurity table setting) other = refl
no_index (CreateIndex name table column) other = absurd (other name table column refl)
no_index (GrantSelect grant) other = refl
no_index (RevokeSelect grant) other = refl
no_index (CreatePolicy policy) other = refl
no_index (DropPolicy name table) other = refl

no_table : {A : Type 0} (known : List (List ℕ)) (s : Statement A) → ((name : Text A) (columns : Items (declared.Column A) A) → s ≡ CreateTable name columns → ⊥) → indexes_after known (statement_of s) ≡ known
no_table known (CreateRole name superuser bypass_rls) other = refl
no_table known (GrantRole group member) other = refl
no_table known (RevokeRole group member) other = refl
no_table known (CreateTable name columns) other = absurd (other name columns refl)
no_table known (SetOwner table owner) other = refl
no_table known (SetRowSecurity table setting) other = refl
no_table known (CreateIndex name table column) other = refl
no_table known (GrantSelect grant) other = refl
no_table known (RevokeSelect grant) other = refl
no_table known (CreatePolicy policy) other = refl
no_table known (DropPolicy name table) other = refl

pub invariant_of-self : goal.invariant_of-self
invariant_of-self g c =
    let s = c.args.statement.now in
    record {
      agrees = still_agrees _ c.self.inside.catalog _ c.args.actor.now (statement_of s) c.apply.result c.apply.ensures.change (none_added _ s c.in_default.not-CreateTable) c.self.invariant.agrees;
      derived = c.self.invariant.derived;
      indexed = still_indexed _ c.self.inside.catalog _ c.args.actor.now (statement_of s) c.apply.result c.apply.ensures.change (no_index s c.in_default.not-CreateIndex) (no_table _ s c.in_default.not-CreateTable) c.self.invariant.indexed;
    }
