-- Tests of the elements of lists.
use Rattle.std.proofs.Common.{◌≡◌, refl, sym, ap₂, ℕ, suc, Bool, true, false, ◌&&◌, ◌||◌, not, cond, ◌==◌, List, [], ◌∷◌, length, filter, arith}
use Rattle.std.specs.List.{list_all, list_any}
use Rattle.std.proofs.lemmas.Bool.{or_left, or_right, or_from, both_ways, eqb-true, eq-eqb, ne_eqb, not_from_false, not-true}
use Rattle.predicates.proofs.Movables.{and_left, and_right}
use Rattle.predicates.proofs.Keeping.{both}

-- ---- one test

pub if_other : (a b : Bool) → a || b ≡ true → a ≡ false → b ≡ true
if_other a b h e = rw e at h

pub if_first : (a b : Bool) → a || b ≡ true → b ≡ false → a ≡ true
if_first true b h e = refl
if_first false b h e = absurd (both_ways b e h)

-- what does not hold implies nothing that holds
pub not_then : (a b : Bool) → (a ≡ true → b ≡ true) → b ≡ false → a ≡ false
not_then true b f h = absurd (both_ways b h (f refl))
not_then false b f h = refl

pub equal_turned : (a b : ℕ) → (a == b) ≡ (b == a)
equal_turned a b = go (a == b) refl
  where
    go : (t : Bool) → (a == b) ≡ t → t ≡ (b == a)
    go true h = sym (eq-eqb b a (sym (eqb-true a b h)))
    go false h = sym (not_then (b == a) (a == b) (λ k. eq-eqb a b (sym (eqb-true b a k))) h)

-- ---- all and some

module _ {X : Type 0} where
  pub all_follow : (p r : X → Bool) → ((x : X) → p x ≡ true → r x ≡ true) → (xs : List X) → list_all p xs ≡ true → list_all r xs ≡ true
  all_follow p r f [] h = refl
  all_follow p r f (x ∷ xs) h = both (r x) (list_all r xs) (f x (and_left (p x) (list_all p xs) h)) (all_follow p r f xs (and_right (p x) (list_all p xs) h))

  pub all_alike : (p q : X → Bool) → ((x : X) → p x ≡ q x) → (xs : List X) → list_all p xs ≡ list_all q xs
  all_alike p q f [] = refl
  all_alike p q f (x ∷ xs) = ap₂ ◌&&◌ (f x) (all_alike p q f xs)

  -- none passes a test that none does who passes one that all pass
  pub none_passes : (p q : X → Bool) → ((x : X) → p x ≡ true → q x ≡ false) → (xs : List X) → list_all p xs ≡ true → list_any q xs ≡ false
  none_passes p q f [] h = refl
  none_passes p q f (x ∷ xs) h = or_from (q x) (list_any q xs) (f x (and_left (p x) (list_all p xs) h)) (none_passes p q f xs (and_right (p x) (list_all p xs) h))

  -- where not all pass a test, some passes the one that is then left
  pub some_passes : (p q r : X → Bool) → ((x : X) → p x ≡ true → q x ≡ false → r x ≡ true) → (xs : List X) → list_all p xs ≡ true → list_all q xs ≡ false → list_any r xs ≡ true
  some_passes p q r f [] h k = absurd (cc)
  some_passes p q r f (x ∷ xs) h k = go (q x) refl k (λ m. some_passes p q r f xs (and_right (p x) (list_all p xs) h) m)
    where
      go : (b : Bool) → q x ≡ b → b && list_all q xs ≡ false → (list_all q xs ≡ false → list_any r xs ≡ true) → r x || list_any r xs ≡ true
      go true e m rest = or_right (r x) (list_any r xs) (rest m)
      go false e m rest = or_left (r x) (list_any r xs) (f x (and_left (p x) (list_all p xs) h) e)

  -- where some passes, there is one
  pub some_there : (p : X → Bool) (xs : List X) → list_any p xs ≡ true → not (length xs == 0) ≡ true
  some_there p [] h = absurd (cc)
  some_there p (x ∷ xs) h = not_from_false (suc (length xs) == 0) (ne_eqb (suc (length xs)) 0 (λ e. omega arith))

  -- where there is one and all pass, some does
  pub all_some : (p : X → Bool) (xs : List X) → not (length xs == 0) ≡ true → list_all p xs ≡ true → list_any p xs ≡ true
  all_some p [] h k = absurd (both_ways (0 == 0) (not-true (0 == 0) h) (eq-eqb 0 0 refl))
  all_some p (x ∷ xs) h k = or_left (p x) (list_any p xs) (and_left (p x) (list_all p xs) k)

  -- those that pass a test pass each test that follows from it
  pub kept_pass : (test r : X → Bool) → ((x : X) → test x ≡ true → r x ≡ true) → (xs : List X) → list_all r (filter test xs) ≡ true
  kept_pass test r f [] = refl
  kept_pass test r f (x ∷ xs) = go (test x) refl (kept_pass test r f xs)
    where
      go : (b : Bool) → test x ≡ b → list_all r (filter test xs) ≡ true → list_all r (cond b (x ∷ filter test xs) (filter test xs)) ≡ true
      go true e h = both (r x) (list_all r (filter test xs)) (f x e) h
      go false e h = h
