-- No statement changes the name or the columns of a table.
use Rattle.std.proofs.Common.{◌≡◌, Bool, true, false, cond, List, [], ◌∷◌, map, Option, Some, None, Result, Ok, Err, refl, sym, ap, ◌∙◌}
use Rattle.std.proofs.lemmas.List.{map-append}
use Rattle.value.specs.declared.refusal.Refusal.{Refusal}
use Rattle.row_ast.specs.Ast as ast
use Rattle.value.specs.Names.{Name}
use Rattle.row_ast.specs.Statements.{Statement, CreateRole, GrantRole, RevokeRole, CreateTable, SetOwner, SetRowSecurity, CreateIndex, GrantSelect, RevokeSelect, CreatePolicy, DropPolicy}
use Rattle.row_ast.specs.declared.statement.RowSecurity.{RowSecurity}
use Rattle.row_ast.specs.declared.statement.RowSecurity.TheVariants.{Enable, Disable, Force, NoForce}
use Rattle.expr.specs.Bound.{BoundExpr}
use Rattle.scope.specs.declared.error.BindError.{BindError}
use Rattle.row_objects.specs.Objects.{Table}
use Rattle.row_objects.specs.TableDefs.{new_table}
use Rattle.row_objects.specs.TableChanges.{with_row_security}
use Rattle.catalog.specs.PolicyPredicate.{bound_predicate}
use Rattle.catalog.specs.Catalog.{Catalog}
use Rattle.catalog.specs.Checks.{first_changed, unless}
use Rattle.catalog.specs.CreatePolicy.{with_bound}
use Rattle.catalog.specs.Changes.{after}
use Rattle.catalog.specs.TableColumns.{KeepsColumns, columns_after, table_columns, with_columns}

one_changed : (p : Table → Bool) (f : Table → Table) → ((t : Table) → with_columns (f t) ≡ with_columns t) → (ts : List Table) → map with_columns (first_changed p f ts) ≡ map with_columns ts
one_changed p f same [] = refl
one_changed p f same (t ∷ ts) = go (p t) (one_changed p f same ts)
  where
    go : (b : Bool) → map with_columns (first_changed p f ts) ≡ map with_columns ts → map with_columns (cond b (f t ∷ ts) (t ∷ first_changed p f ts)) ≡ with_columns t ∷ map with_columns ts
    go true more = ap (λ c. c ∷ map with_columns ts) (same t)
    go false more = ap (λ cs. with_columns t ∷ cs) more

secured : (setting : RowSecurity) (t : Table) → with_columns (with_row_security setting t) ≡ with_columns t
secured Enable t = refl
secured Disable t = refl
secured Force t = refl
secured NoForce t = refl

guarded : (p : ast.CreatePolicy) (t : Table) (bound : Result BoundExpr BindError) → with_columns (with_bound p t bound) ≡ with_columns t
guarded p t (Ok e) = refl
guarded p t (Err fault) = refl

after_one : (cat : Catalog) (actor : Name) (s : Statement) → table_columns (after cat actor s) ≡ columns_after (table_columns cat) s
after_one cat actor (CreateRole name superuser bypass_rls) = refl
after_one cat actor (GrantRole group member) = refl
after_one cat actor (RevokeRole group member) = refl
after_one cat actor (CreateTable name columns) = map-append with_columns cat.tables (new_table actor name columns ∷ [])
after_one cat actor (SetOwner table owner) = one_changed _ _ (λ t. refl) cat.tables
after_one cat actor (SetRowSecurity table setting) = one_changed _ _ (secured setting) cat.tables
after_one cat actor (CreateIndex name table column) = one_changed _ _ (λ t. refl) cat.tables
after_one cat actor (GrantSelect grant) = one_changed _ _ (λ t. refl) cat.tables
after_one cat actor (RevokeSelect grant) = one_changed _ _ (λ t. refl) cat.tables
after_one cat actor (CreatePolicy policy) = one_changed _ _ (λ t. guarded policy t (bound_predicate t policy.predicate)) cat.tables
after_one cat actor (DropPolicy name table) = one_changed _ _ (λ t. refl) cat.tables

pub accepted : (o : Option Refusal) (due new : Catalog) → unless o due ≡ Ok new → due ≡ new
accepted (Some why) due new e = absurd (cc)
accepted None due new e = cc

pub keeps_columns : KeepsColumns
keeps_columns cat new actor statement e = ap table_columns (sym (accepted _ _ new e)) ∙ after_one cat actor statement
