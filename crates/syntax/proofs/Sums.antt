-- The steps of a sum over items seen by a view.
use Rattle.std.proofs.Common.{◌≡◌, ℕ, ◌+◌, ◌-◌, ◌<◌, ◌≤◌, List, length, map, take, get_or, ap, sym, ◌∙◌, arith}
use Rattle.std.proofs.lemmas.List.{take_all}
use Rattle.std.specs.List.{sum, sum_by}
use Rattle.std.proofs.lemmas.Simd.{map-map}
use Rattle.std.proofs.lemmas.List.Sums.{sum-map, sum_by_more, sum_by-take-le}

module _ {X Y : Type 0} (f : Y → ℕ) (view : X → Y) where
  seen : (xs : List X) → sum (map f (map view xs)) ≡ sum_by (λ x. f (view x)) xs
  seen xs = ap sum (map-map f view xs) ∙ sum-map (λ x. f (view x)) xs

  pub sum_next : (xs : List X) (i : ℕ) (x : X) → i < length xs → x ≡ get_or xs i x
      → sum (map f (map view (take (i + 1) xs))) ≡ sum (map f (map view (take i xs))) + f (view x)
  sum_next xs i x l e =
      seen (take (i + 1) xs) ∙ sum_by_more (λ y. f (view y)) xs i x l ∙ ap (λ n. n + f (view (get_or xs i x))) (sym (seen (take i xs)))
      ∙ ap (λ y. sum (map f (map view (take i xs))) + f (view y)) (sym e)

  pub sum_part : (xs : List X) (i : ℕ) → sum (map f (map view (take i xs))) ≤ sum (map f (map view xs))
  sum_part xs i = rw (seen (take i xs), seen xs) (sum_by-take-le (λ x. f (view x)) xs i)

  -- the rest of the room, after all items
  pub room_left : (xs : List X) (i room left : ℕ) → length xs ≤ i → left + sum (map f (map view (take i xs))) ≡ room
      → (sum (map f (map view xs)) ≤ room) × (left ≡ room - sum (map f (map view xs)))
  room_left xs i room left l so_far =
      let all = rw (take_all i xs l) at so_far in
      (omega (arith, all), omega (arith, all))

  -- no room for the item at i
  pub room_passed : (xs : List X) (i room left : ℕ) (x : X) → i < length xs → x ≡ get_or xs i x → left + sum (map f (map view (take i xs))) ≡ room
      → left < f (view x) → room < sum (map f (map view xs))
  room_passed xs i room left x l e so_far q = omega (arith, so_far, q, sum_next xs i x l e, sum_part xs (i + 1))
