-- Named things as entries with a name.
use Rattle.std.proofs.Common.{◌≡◌, ℕ, ◌+◌, Bool, true, false, cond, List, [], ◌∷◌, map, find, Option, Some, None, is_some, option_map, refl, sym, ap, ◌∙◌, true≢false}
use Rattle.std.specs.List.{position_from}

pub is_some-map : {X Y : Type 0} (f : X → Y) (o : Option X) → is_some (option_map f o) ≡ is_some o
is_some-map f None = refl
is_some-map f (Some x) = refl

module _ {X Y : Type 0} (f : X → Y) (p : Y → Bool) where
  pub find-map : (xs : List X) → find p (map f xs) ≡ option_map f (find (λ x. p (f x)) xs)
  find-map [] = refl
  find-map (x ∷ xs) = go (p (f x)) (find-map xs)
    where
      go : (b : Bool) → find p (map f xs) ≡ option_map f (find (λ x. p (f x)) xs) → cond b (Some (f x)) (find p (map f xs)) ≡ option_map f (cond b (Some x) (find (λ x. p (f x)) xs))
      go true more = refl
      go false more = more

  pub index-map : (k : ℕ) (xs : List X) → position_from p k (map f xs) ≡ position_from (λ x. p (f x)) k xs
  index-map k [] = refl
  index-map k (x ∷ xs) = ap (λ o. cond (p (f x)) (Some k) o) (index-map (k + 1) xs)

  -- no name has no entry before the view
  pub none_there : (xs : List X) → is_some (find p (map f xs)) ≡ false → find (λ x. p (f x)) xs ≡ None
  none_there xs h = go (find (λ x. p (f x)) xs) (sym (is_some-map f (find (λ x. p (f x)) xs)) ∙ sym (ap is_some (find-map xs)) ∙ h)
    where
      go : (o : Option X) → is_some o ≡ false → o ≡ None
      go None e = refl
      go (Some x) e = absurd (true≢false e)
