-- The least of a list of offsets.
use Rattle.std.proofs.Common.{◌≡◌, ℕ, List, [], ◌∷◌, ◌++◌, flat_map, map, Option, Some, None, refl, sym, ap, ◌∙◌, nat_cmp}
use Rattle.std.specs.Prelude.{option_to_list}
use Rattle.bags.specs.Least.{least}
use Rattle.expr.specs.Offsets.{least_of, least_of_all}
use Rattle.expr.proofs.Leasts.{least_of_assoc, lesser_is}

-- the least offset of a list
abbrev pub least_in : List ℕ → Option ℕ
least_in = least nat_cmp

pub least_cons : (i : ℕ) (is : List ℕ) → least_in (i ∷ is) ≡ least_of (Some i) (least_in is)
least_cons i is = lesser_is (Some i) (least_in is)

pub least_append : (xs ys : List ℕ) → least_in (xs ++ ys) ≡ least_of (least_in xs) (least_in ys)
least_append [] ys = refl
least_append (x ∷ xs) ys =
    least_cons x (xs ++ ys) ∙ (ap (least_of (Some x)) (least_append xs ys) ∙ (sym (least_of_assoc (Some x) (least_in xs) (least_in ys)) ∙ ap (λ o. least_of o (least_in ys)) (sym (least_cons x xs))))

pub least_one : (o : Option ℕ) → least_in (option_to_list o) ≡ o
least_one None = refl
least_one (Some i) = refl

-- ---- the least of two parts, and of many

pub least_two : (a b : Option ℕ) (xs ys : List ℕ) → a ≡ least_in xs → b ≡ least_in ys → least_of a b ≡ least_in (xs ++ ys)
least_two a b xs ys h k = ap (λ o. least_of o b) h ∙ (ap (least_of (least_in xs)) k ∙ sym (least_append xs ys))

pub least_each : {X : Type 0} (f : X → Option ℕ) (all : X → List ℕ) → ((x : X) → f x ≡ least_in (all x)) → (xs : List X) → least_of_all (map f xs) ≡ least_in (flat_map all xs)
least_each f all h [] = refl
least_each f all h (x ∷ xs) = least_two (f x) (least_of_all (map f xs)) (all x) (flat_map all xs) (h x) (least_each f all h xs)
