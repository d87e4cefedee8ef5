-- The memberships stay those of roles.
use Rattle.std.proofs.Common.{◌≡◌, ℕ, ◌+◌, Bool, true, false, cond, ◌&&◌, List, [], ◌∷◌, ◌++◌, map, find, filter, Some, is_some, Result, Ok, Err, OnOk, OnErr, bytes_eq, refl, sym, ap, ◌∙◌, true≢false}
use Rattle.std.proofs.lemmas.Bool.{and_parts, and_from}
use Rattle.std.proofs.lemmas.List.Folds.{list_all-append}
use Rattle.std.specs.List.{list_all, list_any, position_from}
use Rattle.value.specs.Names.{Name}
use Rattle.row_objects.specs.Named.{index_named}
use Rattle.row_objects.specs.Memberships.{Membership, is_membership, with_membership}
use Rattle.row_objects.specs.Reached.{is_of_roles}
use Rattle.row_objects.specs.View.{role_of}
use Rattle.row_objects.specs.declared.objects.Role.{Role}
use Rattle.catalog.proofs.Named.{index-map}

-- a member that is found has an index
is_at_index_from : {E : Type 0} (p : E → Bool) (k : ℕ) (es : List E) → is_some (find p es) ≡ true → is_some (position_from p k es) ≡ true
is_at_index_from p k [] h = absurd (true≢false (sym h))
is_at_index_from p k (e ∷ es) h = go (p e) h (is_at_index_from p (k + 1) es)
  where
    go : (b : Bool) → is_some (cond b (Some e) (find p es)) ≡ true → (is_some (find p es) ≡ true → is_some (position_from p (k + 1) es) ≡ true) → is_some (cond b (Some k) (position_from p (k + 1) es)) ≡ true
    go true h more = refl
    go false h more = more h

module _ (roles : List (Name × Role)) where
  -- a role has an index
  is_at_index : (n : Name) → is_some (find (λ role. bytes_eq n role.name) (map role_of roles)) ≡ true → is_some (index_named n roles) ≡ true
  is_at_index n h = ap is_some (sym (index-map role_of (λ role. bytes_eq n role.name) 0 roles)) ∙ is_at_index_from (λ role. bytes_eq n role.name) 0 (map role_of roles) h

  module _ (group member : Name) (ms : List Membership) (known : list_all (is_of_roles roles) ms ≡ true)
      (both : (is_some (find (λ role. bytes_eq group role.name) (map role_of roles)) && is_some (find (λ role. bytes_eq member role.name) (map role_of roles))) ≡ true) where
    one : is_of_roles roles (record { member = member; group = group }) ≡ true
    one = let p = and_parts _ _ both in and_from _ _ (is_at_index member p.1) (is_at_index group p.0)

    more : (b : Bool) → list_all (is_of_roles roles) (cond b ms (ms ++ record { member = member; group = group } ∷ [])) ≡ true
    more true = known
    more false = list_all-append (is_of_roles roles) ms (record { member = member; group = group } ∷ []) ∙ and_from _ _ known (and_from _ _ one refl)

    pub known_after : {T E : Type 0} (r : Result T E) (new : List Membership) → OnOk r (new ≡ with_membership group member ms) → OnErr r (new ≡ ms) → list_all (is_of_roles roles) new ≡ true
    known_after (Ok u) new done unchanged = ap (list_all (is_of_roles roles)) done ∙ more (list_any (is_membership group member) ms)
    known_after (Err e) new done unchanged = ap (list_all (is_of_roles roles)) unchanged ∙ known

-- a test that all pass, those that are left pass
pub left_are : {X : Type 0} (p keeps : X → Bool) (xs : List X) → list_all p xs ≡ true → list_all p (filter keeps xs) ≡ true
left_are p keeps [] h = refl
left_are p keeps (x ∷ xs) h = let q = and_parts (p x) (list_all p xs) h in go (keeps x) q.0 (left_are p keeps xs q.1)
  where
    go : (b : Bool) → p x ≡ true → list_all p (filter keeps xs) ≡ true → list_all p (cond b (x ∷ filter keeps xs) (filter keeps xs)) ≡ true
    go true here more = and_from _ _ here more
    go false here more = more
