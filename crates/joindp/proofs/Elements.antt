-- Elements of lists: what is one of a list that is made from others, and of what.
use Rattle.std.proofs.Common.{◌≡◌, ℕ, zero, suc, ◌+◌, ◌<◌, ◌≤◌, Bool, true, false, cond, ◌==◌, List, [], ◌∷◌, ◌++◌, map, filter, Some, slice_get, refl, sym, ap, ◌∙◌, subst, arith, ◌⊎◌, inl, inr}
use Rattle.std.specs.List.{flat_map, list_any, range_with_len}
use Rattle.std.proofs.lemmas.Bool.{cases_eq, eq-eqb, eqb-true, or_cases, or_left, or_right}
use Rattle.joindp.specs.Walks.{IsOneOf}

module _ {X : Type 0} where
  pub in_left : (xs ys : List X) (x : X) → IsOneOf xs x → IsOneOf (xs ++ ys) x
  in_left [] ys x h = absurd h
  in_left (z ∷ zs) ys x (inl e) = inl e
  in_left (z ∷ zs) ys x (inr h) = inr (in_left zs ys x h)

  pub in_right : (xs ys : List X) (x : X) → IsOneOf ys x → IsOneOf (xs ++ ys) x
  in_right [] ys x h = h
  in_right (z ∷ zs) ys x h = inr (in_right zs ys x h)

  pub from_append : (xs ys : List X) (x : X) → IsOneOf (xs ++ ys) x → IsOneOf xs x ⊎ IsOneOf ys x
  from_append [] ys x h = inr h
  from_append (z ∷ zs) ys x (inl e) = inl (inl e)
  from_append (z ∷ zs) ys x (inr h) = at (from_append zs ys x h)
    where
      at : IsOneOf zs x ⊎ IsOneOf ys x → IsOneOf (z ∷ zs) x ⊎ IsOneOf ys x
      at (inl a) = inl (inr a)
      at (inr b) = inr b

  pub in_filter : (p : X → Bool) (xs : List X) (x : X) → IsOneOf xs x → p x ≡ true → IsOneOf (filter p xs) x
  in_filter p [] x h passes = h
  in_filter p (y ∷ ys) x h passes = at (p y) refl h (λ k. in_filter p ys x k passes)
    where
      at : (b : Bool) → p y ≡ b → (y ≡ x) ⊎ IsOneOf ys x → (IsOneOf ys x → IsOneOf (filter p ys) x) → IsOneOf (cond b (y ∷ filter p ys) (filter p ys)) x
      at true e (inl same) rest = inl same
      at true e (inr there) rest = inr (rest there)
      at false e (inl same) rest = let no : false ≡ true = sym e ∙ ap p same ∙ passes in absurd (cc)
      at false e (inr there) rest = rest there

  pub from_filter : (p : X → Bool) (xs : List X) (x : X) → IsOneOf (filter p xs) x → IsOneOf xs x × (p x ≡ true)
  from_filter p [] x h = absurd h
  from_filter p (y ∷ ys) x h = at (p y) refl h (from_filter p ys x)
    where
      at : (b : Bool) → p y ≡ b → IsOneOf (cond b (y ∷ filter p ys) (filter p ys)) x → (IsOneOf (filter p ys) x → IsOneOf ys x × (p x ≡ true)) → ((y ≡ x) ⊎ IsOneOf ys x) × (p x ≡ true)
      at true e (inl same) rest = (inl same, ap p (sym same) ∙ e)
      at true e (inr there) rest = let k = rest there in (inr k.0, k.1)
      at false e there rest = let k = rest there in (inr k.0, k.1)

  pub in_slice : (xs : List X) (k : ℕ) (x : X) → slice_get xs k ≡ Some x → IsOneOf xs x
  in_slice [] k x e = absurd (cc)
  in_slice (y ∷ ys) zero x e = inl (cc)
  in_slice (y ∷ ys) (suc k) x e = inr (in_slice ys k x e)

module _ {X Y : Type 0} where
  pub in_map : (f : X → Y) (xs : List X) (x : X) → IsOneOf xs x → IsOneOf (map f xs) (f x)
  in_map f [] x h = h
  in_map f (y ∷ ys) x (inl e) = inl (ap f e)
  in_map f (y ∷ ys) x (inr h) = inr (in_map f ys x h)

  pub from_map : (f : X → Y) (xs : List X) (y : Y) → IsOneOf (map f xs) y → (x : X) × IsOneOf xs x × (f x ≡ y)
  from_map f [] y h = absurd h
  from_map f (x ∷ xs) y (inl e) = (x, inl refl, e)
  from_map f (x ∷ xs) y (inr h) = let k = from_map f xs y h in (k.0, inr k.1, k.2)

  pub in_flat_map : (f : X → List Y) (xs : List X) (x : X) (y : Y) → IsOneOf xs x → IsOneOf (f x) y → IsOneOf (flat_map f xs) y
  in_flat_map f [] x y h k = absurd h
  in_flat_map f (z ∷ zs) x y (inl e) k = in_left (f z) (flat_map f zs) y (subst (λ w. IsOneOf (f w) y) (sym e) k)
  in_flat_map f (z ∷ zs) x y (inr h) k = in_right (f z) (flat_map f zs) y (in_flat_map f zs x y h k)

  pub from_flat_map : (f : X → List Y) (xs : List X) (y : Y) → IsOneOf (flat_map f xs) y → (x : X) × IsOneOf xs x × IsOneOf (f x) y
  from_flat_map f [] y h = absurd h
  from_flat_map f (x ∷ xs) y h = at (from_append (f x) (flat_map f xs) y h) (from_flat_map f xs y)
    where
      at : IsOneOf (f x) y ⊎ IsOneOf (flat_map f xs) y → (IsOneOf (flat_map f xs) y → (z : X) × IsOneOf xs z × IsOneOf (f z) y) → (z : X) × IsOneOf (x ∷ xs) z × IsOneOf (f z) y
      at (inl here) rest = (x, inl refl, here)
      at (inr there) rest = let k = rest there in (k.0, inr k.1, k.2)

pub in_range : (a n i : ℕ) → a ≤ i → i < a + n → IsOneOf (range_with_len a n) i
in_range a zero i from below = absurd (omega arith)
in_range a (suc n) i from below = at (cases_eq a i) (λ other. in_range (a + 1) n i other (omega arith))
  where
    at : (a ≡ i) ⊎ (a ≡ i → ⊥) → (a + 1 ≤ i → IsOneOf (range_with_len (a + 1) n) i) → (a ≡ i) ⊎ IsOneOf (range_with_len (a + 1) n) i
    at (inl same) rest = inl same
    at (inr other) rest = inr (rest (omega arith))

pub from_range : (a n i : ℕ) → IsOneOf (range_with_len a n) i → (a ≤ i) × (i < a + n)
from_range a zero i h = absurd h
from_range a (suc n) i (inl same) = (omega arith, omega arith)
from_range a (suc n) i (inr there) = let k = from_range (a + 1) n i there in (omega (arith, k.0), omega (arith, k.1))

-- a number that some element of a list equals is one of the list
pub in_any : (xs : List ℕ) (x : ℕ) → list_any (λ c. c == x) xs ≡ true → IsOneOf xs x
in_any [] x h = absurd (cc)
in_any (y ∷ ys) x h = at (or_cases (y == x) (list_any (λ c. c == x) ys) h) (in_any ys x)
  where
    at : ((y == x) ≡ true) ⊎ (list_any (λ c. c == x) ys ≡ true) → (list_any (λ c. c == x) ys ≡ true → IsOneOf ys x) → (y ≡ x) ⊎ IsOneOf ys x
    at (inl here) rest = inl (eqb-true y x here)
    at (inr there) rest = inr (rest there)

pub from_any : (xs : List ℕ) (x : ℕ) → IsOneOf xs x → list_any (λ c. c == x) xs ≡ true
from_any [] x h = absurd h
from_any (y ∷ ys) x (inl same) = or_left (y == x) (list_any (λ c. c == x) ys) (eq-eqb y x same)
from_any (y ∷ ys) x (inr there) = or_right (y == x) (list_any (λ c. c == x) ys) (from_any ys x there)
