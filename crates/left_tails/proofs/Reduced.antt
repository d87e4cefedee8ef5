-- The steps of the estimate after a left joined entry.
use Rattle.std.proofs.Common.{◌≡◌, ◌∙◌, ℕ, suc, ◌+◌, ◌*◌, ◌/◌, ◌<◌, ◌≤◌, Bool, true, false, cond, List, [], ◌∷◌, length, map, filter, drop, drop-cons, get_or, refl, sym, ap, arith}
use Rattle.std.specs.List.{fold}
use Rattle.std.proofs.Math.ListN.{drop_of_length-le}
use Rattle.std.proofs.Math.Nat.{div-le_of_le-mul, le_refl}
use Rattle.std.proofs.lemmas.Nat.{mul-le}
use Rattle.stats.specs.Card.{Selection, reduced}
use Rattle.stats.specs.Factors.{million}

-- reduced by each of some conditions that pass a test
abbrev pub reduced_by : (Selection → Bool) → (rows : ℕ) → List Selection → ℕ
reduced_by test rows conditions = fold reduced rows (map (λ s. s.factor) (filter test conditions))

module _ {X : Type 0} (view : X → Selection) (test : Selection → Bool) (xs : List X) (rows i : ℕ) where
  pub none_left : length xs ≤ i → reduced_by test rows (map view (drop i xs)) ≡ rows
  none_left l = let e : drop i xs ≡ [] = drop_of_length-le xs l in ap (λ ys. reduced_by test rows (map view ys)) e

  module _ (x : X) (more : i < length xs) (is : x ≡ get_or xs i x) where
    first_left : drop i xs ≡ x ∷ drop (i + 1) xs
    first_left = let n : i + 1 ≡ suc i = omega arith in rw (n, drop-cons xs i x more, ← is) refl

    one_step : (b : Bool) → b ≡ test (view x) → reduced_by test rows (map view (drop i xs)) ≡ fold reduced rows (map (λ s. s.factor) (cond b (view x ∷ filter test (map view (drop (i + 1) xs))) (filter test (map view (drop (i + 1) xs)))))
    one_step b e =
        ap (λ ys. reduced_by test rows (map view ys)) first_left
        ∙ ap (λ b. fold reduced rows (map (λ s. s.factor) (cond b (view x ∷ filter test (map view (drop (i + 1) xs))) (filter test (map view (drop (i + 1) xs)))))) (sym e)

    pub reduced_by_it : (new : ℕ) → true ≡ test (view x) → new ≡ reduced rows (view x).factor → reduced_by test new (map view (drop (i + 1) xs)) ≡ reduced_by test rows (map view (drop i xs))
    reduced_by_it new passes n = ap (λ r. reduced_by test r (map view (drop (i + 1) xs))) n ∙ sym (one_step true passes)

    pub not_reduced : (new : ℕ) → false ≡ test (view x) → new ≡ rows → reduced_by test new (map view (drop (i + 1) xs)) ≡ reduced_by test rows (map view (drop i xs))
    not_reduced new fails n = ap (λ r. reduced_by test r (map view (drop (i + 1) xs))) n ∙ sym (one_step false fails)

-- a share is no more than the whole
part_within : (v f : ℕ) → f ≤ million → v * f / million ≤ v
part_within v f l = div-le_of_le-mul million (omega (arith, mul-le v f v million (le_refl v) l))

pub reduced_within : (v f most : ℕ) → f ≤ million → v ≤ most → 1 ≤ most → reduced v f ≤ most
reduced_within v f most l m n = omega (arith, part_within v f l)
