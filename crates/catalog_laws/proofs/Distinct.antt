-- Lists without two elements that are the same.
use Rattle.std.proofs.Common.{◌≡◌, Bool, true, false, cond, List, [], ◌∷◌, ◌++◌, map, filter, refl, sym, ◌∙◌}
use Rattle.std.proofs.lemmas.Bool.{or_parts, or_from}
use Rattle.std.proofs.lemmas.List.{append-nil, map-id}
use Rattle.std.proofs.lemmas.List.Folds.{list_any-append}
use Rattle.std.proofs.lemmas.Map.Keys.{IsDistinct-cons, IsDistinct-head, IsDistinct-tail}
use Rattle.std.specs.List.{AllByRecursion, IsDistinct, list_any}

module _ {K : Type 0} (e : K → K → Bool) where
  by_each : (k : K) (ks : List K) → list_any (e k) ks ≡ false → AllByRecursion (λ y. e k y ≡ false) ks
  by_each k [] h = tt
  by_each k (y ∷ ys) h = let both = or_parts (e k y) (list_any (e k) ys) h in (both.0, by_each k ys both.1)

  by_any : (k : K) (ks : List K) → AllByRecursion (λ y. e k y ≡ false) ks → list_any (e k) ks ≡ false
  by_any k [] h = refl
  by_any k (y ∷ ys) h = or_from (e k y) (list_any (e k) ys) h.0 (by_any k ys h.1)

  pub head_differs : (k : K) (ks : List K) → IsDistinct e (k ∷ ks) → list_any (e k) ks ≡ false
  head_differs k ks h = by_any k ks (IsDistinct-head e k ks h)

  pub with_head : (k : K) (ks : List K) → list_any (e k) ks ≡ false → IsDistinct e ks → IsDistinct e (k ∷ ks)
  with_head k ks none h = IsDistinct-cons e k ks (by_each k ks none) h

  pub none_distinct : IsDistinct e []
  unfolding IsDistinct
  none_distinct = tt

  -- one more, between others
  pub with_one : ((a b : K) → e a b ≡ e b a) → (xs : List K) (y : K) (ys : List K) → list_any (e y) (xs ++ ys) ≡ false → IsDistinct e (xs ++ ys) → IsDistinct e (xs ++ y ∷ ys)
  with_one flips [] y ys none h = with_head y ys none h
  with_one flips (x ∷ xs) y ys none h =
      let both = or_parts (e y x) (list_any (e y) (xs ++ ys)) none in
      let others = or_parts (list_any (e x) xs) (list_any (e x) ys) (sym (list_any-append (e x) xs ys) ∙ head_differs x (xs ++ ys) h) in
      with_head x (xs ++ y ∷ ys)
      (list_any-append (e x) xs (y ∷ ys) ∙ or_from _ _ others.0 (or_from (e x y) (list_any (e x) ys) (flips x y ∙ both.0) others.1))
      (with_one flips xs y ys both.1 (IsDistinct-tail e x (xs ++ ys) h))

  -- some of them
  module _ {X : Type 0} (f : X → K) (p : X → Bool) where
    none_left : (k : K) (xs : List X) → list_any (e k) (map f xs) ≡ false → list_any (e k) (map f (filter p xs)) ≡ false
    none_left k [] h = h
    none_left k (x ∷ xs) h = let both = or_parts (e k (f x)) (list_any (e k) (map f xs)) h in go (p x) both.0 (none_left k xs both.1)
      where
        go : (b : Bool) → e k (f x) ≡ false → list_any (e k) (map f (filter p xs)) ≡ false → list_any (e k) (map f (cond b (x ∷ filter p xs) (filter p xs))) ≡ false
        go true one more = or_from _ _ one more
        go false one more = more

    pub some_distinct : (xs : List X) → IsDistinct e (map f xs) → IsDistinct e (map f (filter p xs))
    some_distinct [] h = h
    some_distinct (x ∷ xs) h = go (p x) (none_left (f x) xs (head_differs (f x) (map f xs) h)) (some_distinct xs (IsDistinct-tail e (f x) (map f xs) h))
      where
        go : (b : Bool) → list_any (e (f x)) (map f (filter p xs)) ≡ false → IsDistinct e (map f (filter p xs)) → IsDistinct e (map f (cond b (x ∷ filter p xs) (filter p xs)))
        go true one more = with_head (f x) (map f (filter p xs)) one more
        go false one more = more

  pub some_left : (p : K → Bool) (ks : List K) → IsDistinct e ks → IsDistinct e (filter p ks)
  some_left p ks h = rw map-id at (some_distinct (λ k. k) p ks (rw map-id h))

  -- one more at the end, which none before it is equal to
  pub with_last : ((a b : K) → e a b ≡ e b a) → (ks : List K) (k : K) → list_any (λ held. e held k) ks ≡ false → IsDistinct e ks → IsDistinct e (ks ++ k ∷ [])
  with_last flips ks k none h = with_one flips ks k [] (rw append-nil (turned ks none)) (rw append-nil h)
    where
      turned : (ks : List K) → list_any (λ held. e held k) ks ≡ false → list_any (e k) ks ≡ false
      turned [] none = none
      turned (x ∷ xs) none = let both = or_parts (e x k) (list_any (λ held. e held k) xs) none in or_from (e k x) (list_any (e k) xs) (flips k x ∙ both.0) (turned xs both.1)
