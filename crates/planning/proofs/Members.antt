-- Members of a list: the lists of so many of them, and the least.
use Rattle.std.proofs.Common.{◌≡◌, ℕ, zero, suc, ◌⊎◌, inl, inr, Bool, true, false, cond, List, [], ◌∷◌, length, map, Option, Some, None, Ordering, Less, Equal, Greater, is_gt, refl, ap, ◌∙◌, subst, arith}
use Rattle.bags.specs.Least.{lesser, least}
use Rattle.bags.proofs.Members.{Each}
use Rattle.joindp.specs.Walks.{IsOneOf}
use Rattle.joindp.proofs.Elements.{in_flat_map, in_map}
use Rattle.planning.specs.Best.{lists_of}

-- a list of so many members of another is one of all of them
pub in_lists : {X : Type 0} (count : ℕ) (xs ys : List X) → length ys ≡ count → Each (IsOneOf xs) ys → IsOneOf (lists_of count xs) ys
in_lists zero xs [] many h = inl refl
in_lists zero xs (y ∷ ys) many h = absurd (omega (arith, many))
in_lists (suc count) xs [] many h = absurd (omega (arith, many))
in_lists (suc count) xs (y ∷ ys) many h =
    in_flat_map (λ x. map (λ zs. x ∷ zs) (lists_of count xs)) xs y (y ∷ ys) h.0 (in_map (λ zs. y ∷ zs) (lists_of count xs) ys (in_lists count xs ys (omega (arith, many)) h.1))

-- ---- the least

module _ {X : Type 0} (cmp : X → X → Ordering) where
  -- the least of a list is in it
  pub least_is_in : (xs : List X) (x : X) → least cmp xs ≡ Some x → IsOneOf xs x
  least_is_in [] x e = absurd (cc)
  least_is_in (y ∷ ys) x e = go (least cmp ys) e (least_is_in ys)
    where
      of_two : (z : X) (b : Bool) → Some (cond b z y) ≡ Some x → IsOneOf ys z → (y ≡ x) ⊎ IsOneOf ys x
      of_two z true e there = let same : z ≡ x = cc in inr (subst (IsOneOf ys) same there)
      of_two z false e there = inl (cc)

      go : (o : Option X) → lesser cmp (Some y) o ≡ Some x → ((z : X) → o ≡ Some z → IsOneOf ys z) → (y ≡ x) ⊎ IsOneOf ys x
      go None e rest = inl (cc)
      go (Some z) e rest = of_two z (is_gt (cmp y z)) e (rest z refl)

  -- a list with a member has a least one
  pub least_is_there : (xs : List X) (x : X) → IsOneOf xs x → (y : X) × (least cmp xs ≡ Some y)
  least_is_there [] x h = absurd h
  least_is_there (z ∷ xs) x h = go (least cmp xs)
    where
      go : (o : Option X) → (y : X) × (lesser cmp (Some z) o ≡ Some y)
      go None = (z, refl)
      go (Some y) = (cond (is_gt (cmp z y)) y z, refl)

  -- a member before which none comes is the least, where the order tells it from the others
  module _ (turned : (x y : X) → cmp x y ≡ Greater → cmp y x ≡ Less) (c : X) where
    pub least_found : (xs : List X) → IsOneOf xs c → ((y : X) → IsOneOf xs y → cmp y c ≡ Less → ⊥) → ((y : X) → IsOneOf xs y → cmp y c ≡ Equal → y ≡ c) → least cmp xs ≡ Some c
    least_found [] h none exact = absurd h
    least_found (x ∷ xs) (inl same) none exact = ap (λ y. lesser cmp (Some y) (least cmp xs)) same ∙ go (least cmp xs) (least_is_in xs)
      where
        of_two : (z : X) (o : Ordering) → cmp c z ≡ o → IsOneOf xs z → Some (cond (is_gt o) z c) ≡ Some c
        of_two z Less e there = refl
        of_two z Equal e there = refl
        of_two z Greater e there = absurd (none z (inr there) (turned c z e))

        go : (o : Option X) → ((z : X) → o ≡ Some z → IsOneOf xs z) → lesser cmp (Some c) o ≡ Some c
        go None rest = refl
        go (Some z) rest = of_two z (cmp c z) refl (rest z refl)
    least_found (x ∷ xs) (inr there) none exact =
        ap (lesser cmp (Some x)) (least_found xs there (λ y h. none y (inr h)) (λ y h. exact y (inr h))) ∙ go (cmp x c) refl
      where
        go : (o : Ordering) → cmp x c ≡ o → Some (cond (is_gt o) c x) ≡ Some c
        go Less e = absurd (none x (inl refl) e)
        go Equal e = ap Some (exact x (inl refl) e)
        go Greater e = refl
