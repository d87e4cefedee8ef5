-- The condition of a policy that the checks found is the one that is due.
use Rattle.std.proofs.Common.{◌≡◌, ℕ, Bool, true, false, cond, List, [], ◌∷◌, find, Option, Some, option_map, Ok, bytes_eq, refl, sym, ap, ◌∙◌}
use Rattle.memory.proofs.Cases.{some_is}
use Rattle.value.specs.declared.refusal.Refusal.{Refusal}
use Rattle.row_ast.specs.Ast.{CreatePolicy}
use Rattle.expr.specs.Bound.{BoundExpr}
use Rattle.row_objects.specs.Objects.{Table}
use Rattle.row_objects.specs.Policies.{new_policy}
use Rattle.row_objects.specs.TableChanges.{changed_at, with_new_policy}
use Rattle.catalog.specs.PolicyPredicate.{bound_predicate}
use Rattle.catalog.specs.Catalog.{Catalog, table_named}
use Rattle.catalog.specs.Checks.{first_changed, unless, with_table}
use Rattle.catalog.specs.CreatePolicy.{after_create_policy, with_bound, with_policy, CheckedPolicy}
use Rattle.catalog.proofs.Positions.{due}

-- ---- changes that agree on the first

first_same : {E : Type 0} (q : E → Bool) (f g : E → E) (es : List E) → ((t : E) → find q es ≡ Some t → f t ≡ g t) → first_changed q f es ≡ first_changed q g es
first_same q f g [] h = refl
first_same {E} q f g (e ∷ es) h = go (q e) h (first_same q f g es)
  where
    go : (b : Bool) → ((t : E) → cond b (Some e) (find q es) ≡ Some t → f t ≡ g t) → (((t : E) → find q es ≡ Some t → f t ≡ g t) → first_changed q f es ≡ first_changed q g es)
        → cond b (f e ∷ es) (e ∷ first_changed q f es) ≡ cond b (g e ∷ es) (e ∷ first_changed q g es)
    go true h more = ap (λ x. x ∷ es) (h e refl)
    go false h more = ap (λ l. e ∷ l) (more h)

policy_same : (cat : Catalog) (p : CreatePolicy) (e : BoundExpr) → option_map (λ t. bound_predicate t p.predicate) (table_named p.table cat) ≡ Some (Ok e)
    → with_table cat p.table (with_new_policy (new_policy p e)) ≡ after_create_policy cat p
policy_same cat p e is = ap (λ ts. let c : Catalog = record cat { tables = ts } in c) (first_same (λ t. bytes_eq p.table t.name) (with_new_policy (new_policy p e)) (with_policy p) cat.tables there)
  where
    there : (t : Table) → table_named p.table cat ≡ Some t → with_new_policy (new_policy p e) t ≡ with_policy p t
    there t found = ap (with_bound p t) (sym (some_is (bound_predicate t p.predicate) (Ok e) (sym (ap (option_map (λ t. bound_predicate t p.predicate)) found) ∙ is)))

-- the policy that is added is the one that is due
pub due_policy : (cat new : Catalog) (p : CreatePolicy) (refusal : Option Refusal) (found : ℕ × BoundExpr) → CheckedPolicy (Ok found) refusal cat p
    → new ≡ record cat { tables = changed_at found.0 (with_new_policy (new_policy p found.1)) cat.tables } → unless refusal (after_create_policy cat p) ≡ Ok new
due_policy cat new p refusal found checked e =
    ap (unless refusal) (sym (policy_same cat p found.1 checked.2)) ∙ due cat p.table (with_new_policy (new_policy p found.1)) found.0 refusal new checked.0 checked.1 e
