-- The item of a number, seen through a view.
use Rattle.std.proofs.Common.{◌≡◌, ℕ, zero, suc, ◌-◌, ◌<◌, ◌≤◌, List, [], ◌∷◌, length, Some, None, slice_get, refl, arith}
use Rattle.std.specs.Prelude.{map, slice_index_or}
use Rattle.plan_texts.specs.PlanTexts.{item_at}

module _ {X Y : Type 0} (view : X → Y) where
  found_at : (xs : List X) (index : ℕ) (other : X) → index < length xs → slice_get (map view xs) index ≡ Some (view (slice_index_or xs index other))
  found_at [] index other l = absurd (omega arith)
  found_at (x ∷ xs) zero other l = refl
  found_at (x ∷ xs) (suc index) other l = found_at xs index other (omega arith)

  none_at : (xs : List X) (index : ℕ) → length xs ≤ index → slice_get (map view xs) index ≡ None
  none_at [] index l = refl
  none_at (x ∷ xs) zero l = absurd (omega arith)
  none_at (x ∷ xs) (suc index) l = none_at xs index (omega arith)

  pub item_is : (xs : List X) (number : ℕ) (other : X) → (number ≡ 0 → ⊥) → number - 1 < length xs → item_at (map view xs) number ≡ Some (view (slice_index_or xs (number - 1) other))
  item_is xs zero other some l = absurd (some refl)
  item_is xs (suc index) other some l = let same : suc index - 1 ≡ index = omega arith in rw same (found_at xs index other (omega (arith, same, l)))

  pub no_item : (xs : List X) (number : ℕ) → (number ≡ 0 → ⊥) → length xs ≤ number - 1 → item_at (map view xs) number ≡ None
  no_item xs zero some l = absurd (some refl)
  no_item xs (suc index) some l = none_at xs index (let same : suc index - 1 ≡ index = omega arith in omega (arith, same, l))
