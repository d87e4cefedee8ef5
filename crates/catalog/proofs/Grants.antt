-- GRANT twice.
use Rattle.std.proofs.Common.{◌≡◌, Bool, true, false, cond, List, [], ◌∷◌, Some, find, is_some, bytes_eq, refl, ap}
use Rattle.std.specs.List.{list_all}
use Rattle.row_objects.specs.Objects.{Table}
use Rattle.row_objects.specs.Grants.{grants_to_all, has_grant}
use Rattle.row_objects.proofs.GrantSets.{all_added, none_added}
use Rattle.row_objects.specs.TableChanges.{with_grants_to}
use Rattle.catalog.specs.Checks.{first_changed, if_found}
use Rattle.catalog.specs.Granted.{GrantedAgain, IsGranted}

module _ (p test : Table → Bool) (f : Table → Table) where
  -- a change of a table that it leaves as it is
  none_changed : ((t : Table) → test t ≡ true → f t ≡ t) → (ts : List Table) → if_found false test (find p ts) ≡ true → first_changed p f ts ≡ ts
  none_changed same [] h = refl
  none_changed same (t ∷ ts) h = go (p t) h (none_changed same ts)
    where
      go : (b : Bool) → if_found false test (cond b (Some t) (find p ts)) ≡ true → (if_found false test (find p ts) ≡ true → first_changed p f ts ≡ ts) → cond b (f t ∷ ts) (t ∷ first_changed p f ts) ≡ t ∷ ts
      go true h more = ap (λ e. e ∷ ts) (same t h)
      go false h more = ap (λ l. t ∷ l) (more h)

  -- the changed table is found
  one_changed : ((t : Table) → p (f t) ≡ p t) → ((t : Table) → test (f t) ≡ true) → (ts : List Table) → is_some (find p ts) ≡ true → if_found false test (find p (first_changed p f ts)) ≡ true
  one_changed still passes [] h = cc
  one_changed still passes (t ∷ ts) h = go (p t) refl (still t) h (one_changed still passes ts)
    where
      go : (b : Bool) → p t ≡ b → p (f t) ≡ b → is_some (cond b (Some t) (find p ts)) ≡ true → (is_some (find p ts) ≡ true → if_found false test (find p (first_changed p f ts)) ≡ true)
          → if_found false test (find p (cond b (f t ∷ ts) (t ∷ first_changed p f ts))) ≡ true
      go true old new h more = rw new (passes t)
      go false old new h more = rw old (more h)

pub granted_again : GrantedAgain
granted_again cat actor grant h =
    ap (λ ts. record cat { tables = ts }) (none_changed (λ t. bytes_eq grant.table t.name) (λ t. list_all (has_grant t.grants) (grants_to_all grant.columns grant.roles)) (with_grants_to grant)
    (λ t there. ap (λ gs. record t { grants = gs }) (none_added t.grants (grants_to_all grant.columns grant.roles) there)) cat.tables h)

pub is_granted : IsGranted
is_granted cat actor grant h =
    one_changed (λ t. bytes_eq grant.table t.name) (λ t. list_all (has_grant t.grants) (grants_to_all grant.columns grant.roles)) (with_grants_to grant)
    (λ t. refl) (λ t. all_added t.grants (grants_to_all grant.columns grant.roles)) cat.tables h
