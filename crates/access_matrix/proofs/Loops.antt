-- The steps of loops that add to a list.
use Rattle.std.proofs.Common.{◌≡◌, ℕ, ◌+◌, ◌<◌, ◌≤◌, Bool, true, false, cond, List, [], ◌∷◌, ◌++◌, append_assoc, append-nil, length, map, filter, get_or, drop, Option, Some, None, refl, sym, ap, ◌∙◌}
use Rattle.std.specs.Prelude.{option_map, slice_get}
use Rattle.std.proofs.lemmas.List.{drop_all, drop_more, map-append}
use Rattle.std.proofs.lemmas.Option.{get_or_from_slice_get, slice_get_within}

-- ---- the item at an index stands first of those from it on

pub from_item : {X : Type 0} (xs : List X) (k : ℕ) (x : X) → k < length xs → x ≡ get_or xs k x → drop k xs ≡ x ∷ drop (k + 1) xs
from_item xs k x more is = drop_more xs k x more ∙ ap (λ y. y ∷ drop (k + 1) xs) (sym is)

pub from_index : {X : Type 0} (xs : List X) (k : ℕ) (x : X) → slice_get xs k ≡ Some x → drop k xs ≡ x ∷ drop (k + 1) xs
from_index xs k x h = from_item xs k x (slice_get_within xs k x h) (sym (get_or_from_slice_get xs k x x h))

-- ---- w adds what h makes of each item

module _ {X Y : Type 0} (h : Y → List X) (w : List Y → List X) (each : (y : Y) (ys : List Y) → w (y ∷ ys) ≡ h y ++ w ys) (ys : List Y) (k : ℕ) (known whole : List X) (so_far : known ++ w (drop k ys) ≡ whole) where
  pub next : (y : Y) → drop k ys ≡ y ∷ drop (k + 1) ys → (new : List X) → new ≡ known ++ h y → new ++ w (drop (k + 1) ys) ≡ whole
  next y first new made =
      ap (λ l. l ++ w (drop (k + 1) ys)) made
      ∙ append_assoc known (h y) (w (drop (k + 1) ys))
      ∙ ap (λ l. known ++ l) (sym (each y (drop (k + 1) ys)))
      ∙ ap (λ l. known ++ w l) (sym first)
      ∙ so_far

  pub over : w [] ≡ [] → length ys ≤ k → known ≡ whole
  over empty none = sym (append-nil known) ∙ ap (λ l. known ++ l) (sym empty) ∙ ap (λ l. known ++ w l) (sym (drop_all k ys none)) ∙ so_far

-- one more item, by its view
pub pushed : {X Z : Type 0} (f : X → Z) (known new : List X) (x : X) (z : Z) → new ≡ known ++ x ∷ [] → f x ≡ z → map f new ≡ map f known ++ z ∷ []
pushed f known new x z made same = ap (λ l. map f l) made ∙ map-append f known (x ∷ []) ∙ ap (λ z. map f known ++ z ∷ []) same

-- ---- those that pass a test

module _ {X Y Z : Type 0} (f : X → Z) (p : Z → Bool) (v : Y → Z) (w : List Y → List Z) (each : (y : Y) (ys : List Y) → w (y ∷ ys) ≡ v y ∷ w ys) (ys : List Y) (k : ℕ) (known : List X) (whole : List Z) (so_far : map f known ++ filter p (w (drop k ys)) ≡ whole) where
  module _ (y : Y) (more : k < length ys) (is : y ≡ get_or ys k y) where
    rest : filter p (w (drop k ys)) ≡ cond (p (v y)) (v y ∷ filter p (w (drop (k + 1) ys))) (filter p (w (drop (k + 1) ys)))
    rest = ap (λ l. filter p (w l)) (from_item ys k y more is) ∙ ap (λ l. filter p l) (each y (drop (k + 1) ys))

    pub kept : true ≡ p (v y) → (x : X) → f x ≡ v y → (new : List X) → new ≡ known ++ x ∷ [] → map f new ++ filter p (w (drop (k + 1) ys)) ≡ whole
    kept t x same new made =
        ap (λ l. l ++ filter p (w (drop (k + 1) ys))) (pushed f known new x (v y) made same)
        ∙ append_assoc (map f known) (v y ∷ []) (filter p (w (drop (k + 1) ys)))
        ∙ ap (λ l. map f known ++ l) (ap (λ b. cond b (v y ∷ filter p (w (drop (k + 1) ys))) (filter p (w (drop (k + 1) ys)))) t ∙ sym rest)
        ∙ so_far

    pub left : false ≡ p (v y) → map f known ++ filter p (w (drop (k + 1) ys)) ≡ whole
    left t = ap (λ l. map f known ++ l) (ap (λ b. cond b (v y ∷ filter p (w (drop (k + 1) ys))) (filter p (w (drop (k + 1) ys)))) t ∙ sym rest) ∙ so_far

-- the item of a list of which there is a view
pub viewed : {A B : Type 0} (v : A → B) (o : Option A) (a : A) (found : Option B) → o ≡ Some a → option_map v o ≡ found → found ≡ Some (v a)
viewed v o a found is h = sym h ∙ ap (λ o. option_map v o) is

-- ---- names one after another

from_named : {Y Z : Type 0} (v : Y → Z) (ys : List Y) (k : ℕ) (z : Z) → option_map v (slice_get ys k) ≡ Some z → map v (drop k ys) ≡ z ∷ map v (drop (k + 1) ys)
from_named {Y = Y} v ys k z h = go (slice_get ys k) refl h
  where
    go : (o : Option Y) → slice_get ys k ≡ o → option_map v o ≡ Some z → map v (drop k ys) ≡ z ∷ map v (drop (k + 1) ys)
    go None e h = absurd (cc)
    go (Some y) e h = let same : v y ≡ z = cc in ap (λ l. map v l) (from_index ys k y e) ∙ ap (λ z. z ∷ map v (drop (k + 1) ys)) same

pub named_next : {X Y Z : Type 0} (f : X → Z) (v : Y → Z) (ys : List Y) (k : ℕ) (known new : List X) (whole : List Z) → map f known ++ map v (drop k ys) ≡ whole
    → (x : X) (o : Option Z) → o ≡ Some (f x) → o ≡ option_map v (slice_get ys k) → new ≡ known ++ x ∷ [] → map f new ++ map v (drop (k + 1) ys) ≡ whole
named_next f v ys k known new whole so_far x o is found made =
    ap (λ l. l ++ map v (drop (k + 1) ys)) (pushed f known new x (f x) made refl)
    ∙ append_assoc (map f known) (f x ∷ []) (map v (drop (k + 1) ys))
    ∙ ap (λ l. map f known ++ l) (sym (from_named v ys k (f x) (sym found ∙ is)))
    ∙ so_far
