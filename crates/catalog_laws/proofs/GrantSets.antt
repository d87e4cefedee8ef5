-- The grants on a table after a GRANT and after a REVOKE.
use Rattle.std.proofs.Common.{◌≡◌, Bool, true, false, not, cond, List, [], ◌∷◌, ◌++◌, map, Option, Some, None, bytes_eq, Contains, ◌⊎◌, inl, inr, ⊎_elim, refl, sym, ap, ◌∙◌, subst}
use Rattle.std.proofs.lemmas.Bool.{and_parts, and_from, not-true, not_from_false, false_from_ne_true, true≢false}
use Rattle.std.proofs.lemmas.List.Elements.{Contains-append_cases, Contains-append_left, Contains-append_right, Contains-push, Contains-push_cases}
use Rattle.std.proofs.lemmas.Slice.Eq.{bytes_eq-Decides}
use Rattle.std.proofs.lemmas.Cmp.{nat_list_eq_equiv}
use Rattle.std.specs.List.{IsDistinct, list_any}
use Rattle.row_ast.specs.Ast as ast
use Rattle.value.specs.Names.{Name}
use Rattle.row_objects.specs.Grants.{Grant, grants_to, grants_to_all, has_grant, is_revoked, same_grant, same_part, takes, with_grant, with_grants, without_grants}
use Rattle.catalog_laws.specs.GrantLaws.{GivesPart, Takes, TakesPart}
use Rattle.catalog_laws.proofs.Distinct.{with_last}
use Rattle.catalog_laws.proofs.Lists.{first_or_later, here, later, none_among, passes_some, some_passes, stays_among, was_among}

-- ---- equality of grants

same_names : (a b : Name) → bytes_eq a b ≡ true → a ≡ b
same_names a b = (bytes_eq-Decides a b).0

names_same : (a b : Name) → a ≡ b → bytes_eq a b ≡ true
names_same a b = (bytes_eq-Decides a b).1

same_parts : (a b : Option Name) → same_part a b ≡ true → a ≡ b
same_parts None None h = refl
same_parts (Some a) (Some b) h = ap (λ (n : Name). let o : Option Name = Some n in o) (same_names a b h)
same_parts None (Some b) h = absurd (cc)
same_parts (Some a) None h = absurd (cc)

same_grants : (a b : Grant) → same_grant a b ≡ true → a ≡ b
same_grants a b h = let both = and_parts _ _ h in let t = same_names a.to b.to both.0 in let c = same_parts a.column b.column both.1 in λ i. record { to = t i; column = c i }

-- ---- with one more

module _ (gs : List Grant) (g : Grant) where
  pub was_or_is : (x : Grant) → Contains (with_grant gs g) x → Contains gs x ⊎ (g ≡ x)
  was_or_is x h = go (has_grant gs g) h
    where
      go : (b : Bool) → Contains (cond b gs (gs ++ g ∷ [])) x → Contains gs x ⊎ (g ≡ x)
      go true h = inl h
      go false h = Contains-push_cases gs g x h

  pub still_is : (x : Grant) → Contains gs x → Contains (with_grant gs g) x
  still_is x h = go (has_grant gs g)
    where
      go : (b : Bool) → Contains (cond b gs (gs ++ g ∷ [])) x
      go true = h
      go false = Contains-append_left gs (g ∷ []) x h

  pub now_is : Contains (with_grant gs g) g
  now_is = go (has_grant gs g) refl
    where
      go : (b : Bool) → has_grant gs g ≡ b → Contains (cond b gs (gs ++ g ∷ [])) g
      go true h = let held = some_passes (λ held. same_grant held g) gs h in subst (λ (x : Grant). Contains gs x) (same_grants held.0 g held.2) held.1
      go false h = Contains-push gs g

-- ---- with more

pub was_or_given : (gs more : List Grant) (x : Grant) → Contains (with_grants gs more) x → Contains gs x ⊎ Contains more x
was_or_given gs [] x h = inl h
was_or_given gs (g ∷ more) x h = ⊎_elim
    (λ a. ⊎_elim (λ b. inl b) (λ b. inr (subst (λ (y : Grant). Contains (g ∷ more) y) b (here g more))) (was_or_is gs g x a))
    (λ a. inr (later g x more a))
    (was_or_given (with_grant gs g) more x h)

pub still_held : (gs more : List Grant) (x : Grant) → Contains gs x → Contains (with_grants gs more) x
still_held gs [] x h = h
still_held gs (g ∷ more) x h = still_held (with_grant gs g) more x (still_is gs g x h)

pub now_held : (gs more : List Grant) (x : Grant) → Contains more x → Contains (with_grants gs more) x
now_held gs [] x h = absurd (none_among x h)
now_held gs (g ∷ more) x h = ⊎_elim
    (λ a. still_held (with_grant gs g) more x (subst (λ (y : Grant). Contains (with_grant gs g) y) a (now_is gs g)))
    (λ a. now_held (with_grant gs g) more x a)
    (first_or_later g x more h)

-- ---- those that a statement gives

on_column : (role : Name) (columns : List Name) (x : Grant) → Contains (map (λ column. record { to = role; column = Some column }) columns) x → (x.to ≡ role) × GivesPart (Some columns) x.column
on_column role [] x h = absurd (none_among x h)
on_column role (c ∷ cs) x h = ⊎_elim
    (λ a. (sym (ap (λ (g : Grant). g.to) a), subst (λ (o : Option Name). GivesPart (Some (c ∷ cs)) o) (ap (λ (g : Grant). g.column) a) (here c cs)))
    (λ a. let more = on_column role cs x a in (more.0, wider x.column more.1))
    (first_or_later _ x _ h)
  where
    wider : (o : Option Name) → GivesPart (Some cs) o → GivesPart (Some (c ∷ cs)) o
    wider None h = h
    wider (Some n) h = later c n cs h

column_on : (role : Name) (columns : List Name) (name : Name) → Contains columns name → Contains (map (λ column. let g : Grant = record { to = role; column = Some column } in g) columns) record { to = role; column = Some name }
column_on role [] name h = absurd (none_among name h)
column_on role (c ∷ cs) name h = ⊎_elim
    (λ a. subst (λ (n : Name). Contains (map (λ column. let g : Grant = record { to = role; column = Some column } in g) (c ∷ cs)) record { to = role; column = Some n }) a (here _ _))
    (λ a. later _ _ _ (column_on role cs name a))
    (first_or_later c name cs h)

given_to : (columns : Option (List Name)) (role : Name) (x : Grant) → Contains (grants_to columns role) x → (x.to ≡ role) × GivesPart columns x.column
given_to None role x h = ⊎_elim
    (λ a. (sym (ap (λ (g : Grant). g.to) a), subst (λ (o : Option Name). GivesPart None o) (ap (λ (g : Grant). g.column) a) tt))
    (λ a. absurd (none_among x a))
    (first_or_later _ x [] h)
given_to (Some columns) role x h = on_column role columns x h

to_given : (columns : Option (List Name)) (role : Name) (part : Option Name) → GivesPart columns part → Contains (grants_to columns role) record { to = role; column = part }
to_given None role None h = here _ []
to_given None role (Some name) h = absurd h
to_given (Some columns) role None h = absurd h
to_given (Some columns) role (Some name) h = column_on role columns name h

pub given_by : (columns : Option (List Name)) (roles : List Name) (x : Grant) → Contains (grants_to_all columns roles) x → Contains roles x.to × GivesPart columns x.column
given_by columns [] x h = absurd (none_among x h)
given_by columns (role ∷ roles) x h = ⊎_elim
    (λ a. let it = given_to columns role x a in (subst (λ (n : Name). Contains (role ∷ roles) n) (sym it.0) (here role roles), it.1))
    (λ a. let more = given_by columns roles x a in (later role x.to roles more.0, more.1))
    (Contains-append_cases (grants_to columns role) (grants_to_all columns roles) x h)

pub by_given : (columns : Option (List Name)) (roles : List Name) (to : Name) (part : Option Name) → Contains roles to → GivesPart columns part → Contains (grants_to_all columns roles) record { to = to; column = part }
by_given columns [] to part h p = absurd (none_among to h)
by_given columns (role ∷ roles) to part h p = ⊎_elim
    (λ a. Contains-append_left (grants_to columns role) (grants_to_all columns roles) _ (subst (λ (n : Name). Contains (grants_to columns role) record { to = n; column = part }) a (to_given columns role part p)))
    (λ a. Contains-append_right (grants_to columns role) (grants_to_all columns roles) _ (by_given columns roles to part a p))
    (first_or_later role to roles h)

-- ---- those that a statement takes

one_of : (name : Name) (names : List Name) → list_any (bytes_eq name) names ≡ true → Contains names name
one_of name names h = let found = some_passes (bytes_eq name) names h in subst (λ (n : Name). Contains names n) (sym (same_names name found.0 found.2)) found.1

is_one_of : (name : Name) (names : List Name) → Contains names name → list_any (bytes_eq name) names ≡ true
is_one_of name names h = passes_some (bytes_eq name) names name h (names_same name name refl)

taken_part : (columns : Option (List Name)) (part : Option Name) → takes columns part ≡ true → TakesPart columns part
taken_part None part h = tt
taken_part (Some columns) None h = absurd (cc)
taken_part (Some columns) (Some name) h = one_of name columns h

part_taken : (columns : Option (List Name)) (part : Option Name) → TakesPart columns part → takes columns part ≡ true
part_taken None part h = refl
part_taken (Some columns) None h = absurd h
part_taken (Some columns) (Some name) h = is_one_of name columns h

module _ (grant : ast.Grant) (g : Grant) where
  is_taken : is_revoked grant.columns grant.roles g ≡ true → Takes grant g
  is_taken h = let both = and_parts (list_any (bytes_eq g.to) grant.roles) (takes grant.columns g.column) h in (one_of g.to grant.roles both.0, taken_part grant.columns g.column both.1)

  taken_is : Takes grant g → is_revoked grant.columns grant.roles g ≡ true
  taken_is h = and_from (list_any (bytes_eq g.to) grant.roles) (takes grant.columns g.column) (is_one_of g.to grant.roles h.0) (part_taken grant.columns g.column h.1)

  module _ (gs : List Grant) where
    pub left_was : Contains (without_grants grant.columns grant.roles gs) g → Contains gs g × ¬ (Takes grant g)
    left_was h =
        let both = was_among (λ g. not (is_revoked grant.columns grant.roles g)) gs g h in
        (both.0, λ t. true≢false (sym (taken_is t) ∙ not-true _ both.1))

    pub was_left : Contains gs g → ¬ (Takes grant g) → Contains (without_grants grant.columns grant.roles gs) g
    was_left h free = stays_among (λ g. not (is_revoked grant.columns grant.roles g)) gs g h (not_from_false _ (false_from_ne_true _ (λ t. free (is_taken t))))

-- ---- no grant twice

parts_turned : (a b : Option Name) → same_part a b ≡ same_part b a
parts_turned None None = refl
parts_turned None (Some b) = refl
parts_turned (Some a) None = refl
parts_turned (Some a) (Some b) = nat_list_eq_equiv.symm a b

turned : (a b : Grant) → same_grant a b ≡ same_grant b a
turned a b = rw (nat_list_eq_equiv.symm a.to b.to, parts_turned a.column b.column) refl

once_with : (gs : List Grant) (g : Grant) → IsDistinct same_grant gs → IsDistinct same_grant (with_grant gs g)
once_with gs g h = go (has_grant gs g) refl
  where
    go : (b : Bool) → has_grant gs g ≡ b → IsDistinct same_grant (cond b gs (gs ++ g ∷ []))
    go true held = h
    go false new = with_last same_grant turned gs g new h

pub once_with_all : (gs more : List Grant) → IsDistinct same_grant gs → IsDistinct same_grant (with_grants gs more)
once_with_all gs [] h = h
once_with_all gs (g ∷ more) h = once_with_all (with_grant gs g) more (once_with gs g h)
