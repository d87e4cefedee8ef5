-- Grants that are there already, lists that grow at the end, and the grants to roles one after another.
use Rattle.std.proofs.Common.{◌≡◌, ℕ, ◌+◌, ◌<◌, Bool, true, false, cond, ◌&&◌, List, [], ◌∷◌, ◌++◌, length, take, drop, get_or, Option, Some, None, bytes_eq, refl, sym, ap, ◌∙◌, append_assoc, append-nil}
use Rattle.std.proofs.lemmas.List.{take_at, drop_more}
use Rattle.std.proofs.lemmas.List.Folds.{list_any-append}
use Rattle.std.proofs.lemmas.Slice.Eq.{bytes_eq-Decides}
use Rattle.std.specs.List.{list_all}
use Rattle.value.specs.Names.{Name}
use Rattle.row_objects.specs.HeldColumns.{on_column}
use Rattle.row_objects.specs.Grants.{Grant, grants_to, grants_to_all, has_grant, same_grant, same_part, with_grant, with_grants, IsFront}

-- ---- lists that grow at the end

pub front_on : {X : Type 0} (a b c : List X) → IsFront a b → IsFront b c → IsFront a c
front_on a b c p q = (p.0 ++ q.0, q.1 ∙ ap (λ l. l ++ q.0) p.1 ∙ append_assoc a p.0 q.0)

-- ---- grants are a set

pub bytes_same : (name : Name) → bytes_eq name name ≡ true
bytes_same name = (bytes_eq-Decides name name).1 refl

part_same : (part : Option Name) → same_part part part ≡ true
part_same None = refl
part_same (Some name) = bytes_same name

grant_same : (g : Grant) → same_grant g g ≡ true
grant_same g = rw (part_same g.column, bytes_same g.to)

-- a grant that is there stays
kept_one : (gs : List Grant) (g other : Grant) → has_grant gs other ≡ true → has_grant (with_grant gs g) other ≡ true
kept_one gs g other h = go (has_grant gs g)
  where
    go : (b : Bool) → has_grant (cond b gs (gs ++ g ∷ [])) other ≡ true
    go true = h
    go false = rw (list_any-append (λ held. same_grant held other) gs (g ∷ []), h)

kept : (gs more : List Grant) (other : Grant) → has_grant gs other ≡ true → has_grant (with_grants gs more) other ≡ true
kept gs [] other h = h
kept gs (g ∷ more) other h = kept (with_grant gs g) more other (kept_one gs g other h)

-- a new grant is there
added_one : (gs : List Grant) (g : Grant) → has_grant (with_grant gs g) g ≡ true
added_one gs g = go (has_grant gs g) refl
  where
    go : (b : Bool) → has_grant gs g ≡ b → has_grant (cond b gs (gs ++ g ∷ [])) g ≡ true
    go true h = h
    go false h = rw (list_any-append (λ held. same_grant held g) gs (g ∷ []), h, grant_same g)

pub all_added : (gs more : List Grant) → list_all (has_grant (with_grants gs more)) more ≡ true
all_added gs [] = refl
all_added gs (g ∷ more) = rw (kept (with_grant gs g) more g (added_one gs g)) (all_added (with_grant gs g) more)

-- grants that are there already are not added
pub none_added : (gs more : List Grant) → list_all (has_grant gs) more ≡ true → with_grants gs more ≡ gs
none_added gs [] h = refl
none_added gs (g ∷ more) h = go (has_grant gs g) h (none_added gs more)
  where
    go : (b : Bool) → (b && list_all (has_grant gs) more) ≡ true → (list_all (has_grant gs) more ≡ true → with_grants gs more ≡ gs) → with_grants (cond b gs (gs ++ g ∷ [])) more ≡ gs
    go true h rest = rest h
    go false h rest = cc

-- ---- grants to one more role

pub granted_on : (gs some more : List Grant) → with_grants gs (some ++ more) ≡ with_grants (with_grants gs some) more
granted_on gs [] more = refl
granted_on gs (g ∷ some) more = granted_on (with_grant gs g) some more

pub next_role : (columns : Option (List Name)) (roles : List Name) (k : ℕ) (role : Name) (gs new : List Grant) → k < length roles → role ≡ get_or roles k role → new ≡ with_grants gs (grants_to columns role)
    → with_grants new (grants_to_all columns (drop (k + 1) roles)) ≡ with_grants gs (grants_to_all columns (drop k roles))
next_role columns roles k role gs new l is e =
    let d : drop k roles ≡ role ∷ drop (k + 1) roles = drop_more roles k role l ∙ ap (λ (r : Name). r ∷ drop (k + 1) roles) (sym is) in
    ap (λ n. with_grants n (grants_to_all columns (drop (k + 1) roles))) e
    ∙ sym (granted_on gs (grants_to columns role) (grants_to_all columns (drop (k + 1) roles)))
    ∙ sym (ap (λ rs. with_grants gs (grants_to_all columns rs)) d)

-- ---- a grant on one more column

pub next_column : (to : Name) (columns : List Name) (k : ℕ) (column : Name) (gs new : List Grant) → k < length columns → column ≡ get_or columns k column → new ≡ with_grant gs (on_column to column)
    → with_grants new (grants_to (Some (drop (k + 1) columns)) to) ≡ with_grants gs (grants_to (Some (drop k columns)) to)
next_column to columns k column gs new l is e =
    let d : drop k columns ≡ column ∷ drop (k + 1) columns = drop_more columns k column l ∙ ap (λ (c : Name). c ∷ drop (k + 1) columns) (sym is) in
    ap (λ n. with_grants n (grants_to (Some (drop (k + 1) columns)) to)) e ∙ sym (ap (λ cs. with_grants gs (grants_to (Some cs) to)) d)
