-- One more mark, and the others as they were.
use Rattle.std.proofs.Common.{◌≡◌, ◌≢◌, ◌≤◌, ◌<◌, ◌==◌, ℕ, zero, suc, Bool, true, false, true≢false, eqb-true, List, [], ◌∷◌, ◌++◌, All, length, get_or, slice_get, slice_set, option_map, Option, Some, refl, sym, ap, ◌∙◌, subst, arith}
use Rattle.std.proofs.lemmas.Bool.{eq-eqb}
use Rattle.std.proofs.lemmas.List.{get_or-set_same, get_or-set_other}
use Rattle.std.proofs.lemmas.List.Elements.{All-get_or}
use Rattle.memory.proofs.Cases.{some_is}
use Rattle.row_marks.specs.Marks.{numbered}

module _ {X : Type 0} where
  before_last : (xs : List X) (y : X) (k : ℕ) → k < length xs → slice_get (xs ++ y ∷ []) k ≡ slice_get xs k
  before_last [] y k h = absurd (omega arith)
  before_last (x ∷ xs) y zero h = refl
  before_last (x ∷ xs) y (suc k) h = before_last xs y k (omega (arith, h))

  last_is : (xs : List X) (y : X) → slice_get (xs ++ y ∷ []) (length xs) ≡ Some y
  last_is [] y = refl
  last_is (x ∷ xs) y = last_is xs y

bound : (most : ℕ) (ps : List ℕ) → ((i : ℕ) → i < length ps → get_or ps i 0 ≤ most) → (k : ℕ) → get_or ps k 0 ≤ most
bound most [] h k = omega arith
bound most (p ∷ ps) h zero = h 0 (omega arith)
bound most (p ∷ ps) h (suc k) = bound most ps (λ i lt. h (suc i) (omega (arith, lt))) k

module _ {X O : Type 0} (f : X → O) where
  abbrev pub at : List ℕ → List X → ℕ → Option O
  at places made k = option_map f (numbered made (get_or places k 0))

  module _ (places : List ℕ) (made : List X) (within : All (λ p. p ≤ length made) places) (n : ℕ) (lt : n < length places) (x : X) (place : ℕ) (is : place ≡ suc (length made)) where
    pub put_same : at (slice_set places n place) (made ++ x ∷ []) n ≡ Some (f x)
    put_same = ap (λ p. option_map f (numbered (made ++ x ∷ []) p)) (get_or-set_same places n place 0 lt ∙ is) ∙ ap (option_map f) (last_is made x)

    others : (p : ℕ) → p ≤ length made → numbered (made ++ x ∷ []) p ≡ numbered made p
    others zero h = refl
    others (suc k) h = before_last made x k (omega (arith, h))

    pub put_other : (k : ℕ) → k ≢ n → at (slice_set places n place) (made ++ x ∷ []) k ≡ at places made k
    put_other k ne =
        ap (λ p. option_map f (numbered (made ++ x ∷ []) p)) (get_or-set_other places n k place 0 ne)
        ∙ ap (option_map f) (others (get_or places k 0) (bound (length made) places (λ i h. All-get_or (λ p. p ≤ length made) places i 0 h within) k))

    pub put_each : (P : ℕ → O → Type 0) → ((k : ℕ) (m : O) → at places made k ≡ Some m → P k m) → P n (f x) → (k : ℕ) (m : O) → at (slice_set places n place) (made ++ x ∷ []) k ≡ Some m → P k m
    put_each P old here k m h = go (k == n) refl
      where
        go : (b : Bool) → (k == n) ≡ b → P k m
        go true e =
            let same : k ≡ n = eqb-true k n e in
            let found = sym put_same ∙ ap (at (slice_set places n place) (made ++ x ∷ [])) (sym same) ∙ h in
            subst (λ j. P j m) (sym same) (subst (P n) (some_is (f x) m found) here)
        go false e = old k m (sym (put_other k (λ same. true≢false (sym (eq-eqb k n same) ∙ e))) ∙ h)

-- one more place, of no mark
grown : (ps : List ℕ) (k : ℕ) → get_or (ps ++ 0 ∷ []) k 0 ≡ get_or ps k 0
grown [] zero = refl
grown [] (suc k) = refl
grown (p ∷ ps) zero = refl
grown (p ∷ ps) (suc k) = grown ps k

pub same_marks : {X O : Type 0} (f : X → O) (places : List ℕ) (made : List X) (k : ℕ) → at f (places ++ 0 ∷ []) made k ≡ at f places made k
same_marks f places made k = ap (λ p. option_map f (numbered made p)) (grown places k)
