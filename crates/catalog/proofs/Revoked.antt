-- The grants that a revoke takes and leaves.
use Rattle.std.proofs.Common.{◌≡◌, Bool, true, false, not, ◌&&◌, cond, List, [], ◌∷◌, find, Option, Some, None, is_none, bytes_eq, refl, sym, ap, ◌∙◌, subst}
use Rattle.std.specs.List.{list_any}
use Rattle.row_ast.specs.Ast as ast
use Rattle.value.specs.Names.{Name}
use Rattle.row_objects.specs.Grants.{Grant, takes, without_grants}
use Rattle.row_objects.specs.Objects.{Table}
use Rattle.row_objects.proofs.Paths.{text_same}
use Rattle.row_objects.specs.TableChanges.{without_grants_to}
use Rattle.catalog.specs.Catalog.{table_named}
use Rattle.catalog.specs.Checks.{first_changed, if_found}
use Rattle.catalog.specs.Granted.{held_by, on_table, RevokedColumns, RevokedTable}

-- on the table: no grant to the role is left
all_taken : (roles : List Name) (role : Name) → list_any (bytes_eq role) roles ≡ true → (gs : List Grant) → held_by role (without_grants None roles gs) ≡ []
all_taken roles role there [] = refl
all_taken roles role there (g ∷ gs) = go (bytes_eq g.to role) (list_any (bytes_eq g.to) roles) refl refl (all_taken roles role there gs)
  where
    rest : List Grant
    rest = without_grants None roles gs

    go : (s t : Bool) → bytes_eq g.to role ≡ s → list_any (bytes_eq g.to) roles ≡ t → held_by role rest ≡ [] → held_by role (cond (not (t && true)) (g ∷ rest) rest) ≡ []
    go s true x y more = more
    go false false x y more = ap (λ b. cond b (g ∷ held_by role rest) (held_by role rest)) x ∙ more
    go true false x y more = absurd (let e : true ≡ false = sym there ∙ ap (λ (n : Name). list_any (bytes_eq n) roles) (sym (text_same g.to role x)) ∙ y in cc)

-- on columns: the grants on the whole table stay
whole_stay : (columns roles : List Name) (gs : List Grant) → on_table (without_grants (Some columns) roles gs) ≡ on_table gs
whole_stay columns roles [] = refl
whole_stay columns roles (g ∷ gs) = go g.column refl (list_any (bytes_eq g.to) roles) (whole_stay columns roles gs)
  where
    rest : List Grant
    rest = without_grants (Some columns) roles gs

    step : (c : Option Name) (b : Bool) → g.column ≡ c → on_table rest ≡ on_table gs → on_table (cond (not (b && takes (Some columns) c)) (g ∷ rest) rest) ≡ cond (is_none c) (g ∷ on_table gs) (on_table gs)
    step None true e more = ap (λ (o : Option Name). cond (is_none o) (g ∷ on_table rest) (on_table rest)) e ∙ ap (λ l. g ∷ l) more
    step None false e more = ap (λ (o : Option Name). cond (is_none o) (g ∷ on_table rest) (on_table rest)) e ∙ ap (λ l. g ∷ l) more
    step (Some c) b e more = by (not (b && takes (Some columns) (Some c)))
      where
        by : (k : Bool) → on_table (cond k (g ∷ rest) rest) ≡ on_table gs
        by true = ap (λ (o : Option Name). cond (is_none o) (g ∷ on_table rest) (on_table rest)) e ∙ more
        by false = more

    go : (c : Option Name) → g.column ≡ c → (b : Bool) → on_table rest ≡ on_table gs → on_table (cond (not (b && takes (Some columns) g.column)) (g ∷ rest) rest) ≡ cond (is_none g.column) (g ∷ on_table gs) (on_table gs)
    go c e b more = subst (λ (o : Option Name). on_table (cond (not (b && takes (Some columns) o)) (g ∷ rest) rest) ≡ cond (is_none o) (g ∷ on_table gs) (on_table gs)) (sym e) (step c b e more)

-- the grants on the table that is changed
module _ (p : Table → Bool) (f : Table → Table) (still : (t : Table) → p (f t) ≡ p t) where
  grants_changed : (ts : List Table) → if_found [] (λ t. t.grants) (find p (first_changed p f ts)) ≡ if_found [] (λ t. (f t).grants) (find p ts)
  grants_changed [] = refl
  grants_changed (t ∷ ts) = go (p t) refl (still t) (grants_changed ts)
    where
      go : (b : Bool) → p t ≡ b → p (f t) ≡ p t → if_found [] (λ t. t.grants) (find p (first_changed p f ts)) ≡ if_found [] (λ t. (f t).grants) (find p ts)
          → if_found [] (λ t. t.grants) (find p (cond b (f t ∷ ts) (t ∷ first_changed p f ts))) ≡ if_found [] (λ t. (f t).grants) (cond b (Some t) (find p ts))
      go true old same more = ap (λ c. if_found [] (λ t. t.grants) (cond c (Some (f t)) (find p ts))) (same ∙ old)
      go false old same more = ap (λ c. if_found [] (λ t. t.grants) (cond c (Some t) (find p (first_changed p f ts)))) old ∙ more

abbrev revoke : Option (List Name) → Name → List Name → ast.Grant
revoke columns table roles = record { columns = columns; table = table; roles = roles }

pub revoked_table : RevokedTable
revoked_table cat actor table role roles there =
    ap (held_by role) (grants_changed (λ t. bytes_eq table t.name) (without_grants_to (revoke None table roles)) (λ t. refl) cat.tables) ∙ by (table_named table cat)
  where
    by : (o : Option Table) → held_by role (if_found [] (λ t. without_grants None roles t.grants) o) ≡ []
    by None = refl
    by (Some t) = all_taken roles role there t.grants

pub revoked_columns : RevokedColumns
revoked_columns cat actor table columns roles =
    ap on_table (grants_changed (λ t. bytes_eq table t.name) (without_grants_to (revoke (Some columns) table roles)) (λ t. refl) cat.tables) ∙ by (table_named table cat)
  where
    by : (o : Option Table) → on_table (if_found [] (λ t. without_grants (Some columns) roles t.grants) o) ≡ on_table (if_found [] (λ t. t.grants) o)
    by None = refl
    by (Some t) = whole_stay columns roles t.grants
