-- Grants to names, of which each counts once.
use Rattle.std.proofs.Common.{◌≡◌, Bool, true, false, cond, ◌&&◌, List, [], ◌∷◌, ◌++◌, map, Option, Some, None, option_map, bytes_eq, refl, sym, ap, ◌∙◌, subst, append_assoc, append-nil, ⊎_elim}
use Rattle.std.proofs.lemmas.Bool.{and_parts, and_from, or_cases}
use Rattle.std.proofs.lemmas.List.{map-append}
use Rattle.std.proofs.lemmas.List.Folds.{list_all-append}
use Rattle.std.specs.List.{list_all, list_any}
use Rattle.value.specs.Names.{Name}
use Rattle.row_objects.specs.EachOnce.{each_once, with_name, with_names}
use Rattle.row_objects.specs.Grants.{Grant, grants_to, grants_to_all, has_grant, with_grants}
use Rattle.row_objects.specs.HeldColumns.{on_column}
use Rattle.row_objects.proofs.GrantSets.{all_added, granted_on, none_added}
use Rattle.row_objects.proofs.Marks.{false_is_not}
use Rattle.row_objects.proofs.Paths.{text_same}

-- f gives the grants of names, those of one name after those of another; if all of some names are there, those of one of them are
module _ (f : List Name → List Grant) (on : (xs ys : List Name) → f (xs ++ ys) ≡ f xs ++ f ys)
    (again : (gs : List Grant) (seen : List Name) (n : Name) → list_any (bytes_eq n) seen ≡ true → list_all (has_grant gs) (f seen) ≡ true → list_all (has_grant gs) (f (n ∷ [])) ≡ true) where
  once : (gs : List Grant) (seen names : List Name) → with_grants gs (f (with_names seen names)) ≡ with_grants gs (f (seen ++ names))
  once gs seen [] = ap (λ ns. with_grants gs (f ns)) (sym (append-nil seen))
  once gs seen (n ∷ names) = once gs (with_name seen n) names ∙ go (list_any (bytes_eq n) seen) refl
    where
      parted : (xs ys : List Name) → with_grants gs (f (xs ++ ys)) ≡ with_grants (with_grants gs (f xs)) (f ys)
      parted xs ys = ap (with_grants gs) (on xs ys) ∙ granted_on gs (f xs) (f ys)

      go : (b : Bool) → list_any (bytes_eq n) seen ≡ b → with_grants gs (f (cond b seen (seen ++ n ∷ []) ++ names)) ≡ with_grants gs (f (seen ++ n ∷ names))
      go false h = ap (λ ns. with_grants gs (f ns)) (append_assoc seen (n ∷ []) names)
      go true h =
          let all : List Grant = with_grants gs (f seen) in
          let first : with_grants all (f (n ∷ names)) ≡ with_grants (with_grants all (f (n ∷ []))) (f names) = ap (with_grants all) (on (n ∷ []) names) ∙ granted_on all (f (n ∷ [])) (f names) in
          let none : with_grants all (f (n ∷ [])) ≡ all = none_added all (f (n ∷ [])) (again all seen n h (all_added gs (f seen))) in
          parted seen names ∙ sym (parted seen (n ∷ names) ∙ first ∙ ap (λ gs. with_grants gs (f names)) none)

-- ---- roles

to_all_on : (columns : Option (List Name)) (some more : List Name) → grants_to_all columns (some ++ more) ≡ grants_to_all columns some ++ grants_to_all columns more
to_all_on columns [] more = refl
to_all_on columns (r ∷ some) more = ap (λ gs. grants_to columns r ++ gs) (to_all_on columns some more) ∙ sym (append_assoc (grants_to columns r) (grants_to_all columns some) (grants_to_all columns more))

roles_again : (columns : Option (List Name)) (gs : List Grant) (seen : List Name) (n : Name) → list_any (bytes_eq n) seen ≡ true → list_all (has_grant gs) (grants_to_all columns seen) ≡ true → list_all (has_grant gs) (grants_to columns n ++ []) ≡ true
roles_again columns gs [] n h all = false_is_not h
roles_again columns gs (r ∷ seen) n h all =
    let parts = and_parts _ _ (sym (list_all-append (has_grant gs) (grants_to columns r) (grants_to_all columns seen)) ∙ all) in
    ⊎_elim
    (λ same. ap (list_all (has_grant gs)) (append-nil (grants_to columns n)) ∙ subst (λ (m : Name). list_all (has_grant gs) (grants_to columns m) ≡ true) (sym (text_same n r same)) parts.0)
    (λ among. roles_again columns gs seen n among parts.1)
    (or_cases _ _ h)

roles_once : (columns : Option (List Name)) (gs : List Grant) (roles : List Name) → with_grants gs (grants_to_all columns (each_once roles)) ≡ with_grants gs (grants_to_all columns roles)
roles_once columns gs roles = once (grants_to_all columns) (to_all_on columns) (λ gs seen n h all. roles_again columns gs seen n h all) gs [] roles

-- ---- columns

columns_again : (to : Name) (gs : List Grant) (seen : List Name) (n : Name) → list_any (bytes_eq n) seen ≡ true → list_all (has_grant gs) (map (on_column to) seen) ≡ true → (has_grant gs (on_column to n) && true) ≡ true
columns_again to gs [] n h all = false_is_not h
columns_again to gs (c ∷ seen) n h all =
    let parts = and_parts (has_grant gs (on_column to c)) (list_all (has_grant gs) (map (on_column to) seen)) all in
    ⊎_elim
    (λ same. and_from _ _ (subst (λ (m : Name). has_grant gs (on_column to m) ≡ true) (sym (text_same n c same)) parts.0) refl)
    (λ among. columns_again to gs seen n among parts.1)
    (or_cases _ _ h)

columns_once : (columns : List Name) (gs : List Grant) (roles : List Name) → with_grants gs (grants_to_all (Some (each_once columns)) roles) ≡ with_grants gs (grants_to_all (Some columns) roles)
columns_once columns gs [] = refl
columns_once columns gs (r ∷ roles) =
    granted_on gs (grants_to (Some (each_once columns)) r) (grants_to_all (Some (each_once columns)) roles)
    ∙ ap (λ gs. with_grants gs (grants_to_all (Some (each_once columns)) roles)) (once (map (on_column r)) (map-append (on_column r)) (λ gs seen n h all. columns_again r gs seen n h all) gs [] columns)
    ∙ columns_once columns (with_grants gs (grants_to (Some columns) r)) roles
    ∙ sym (granted_on gs (grants_to (Some columns) r) (grants_to_all (Some columns) roles))

-- ---- both

pub granted_once : (gs : List Grant) (columns : Option (List Name)) (roles : List Name) → with_grants gs (grants_to_all (option_map each_once columns) (each_once roles)) ≡ with_grants gs (grants_to_all columns roles)
granted_once gs None roles = roles_once None gs roles
granted_once gs (Some columns) roles = roles_once (Some (each_once columns)) gs roles ∙ columns_once columns gs roles
