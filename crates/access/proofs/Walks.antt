-- A walk that looks for an item, one item after another.
use Rattle.std.proofs.Common.{◌≡◌, ℕ, suc, ◌+◌, ◌<◌, ◌≤◌, Bool, true, false, ◌||◌, List, [], ◌∷◌, length, get_or, drop, drop-cons, refl, sym, ap, ◌∙◌, arith}
use Rattle.std.proofs.lemmas.List.{drop_all}

-- w tests that f holds of some item
module _ {X : Type 0} (f : X → Bool) (w : List X → Bool) (each : (x : X) (xs : List X) → w (x ∷ xs) ≡ (f x || w xs)) (xs : List X) (k : ℕ) (so_far : w (drop k xs) ≡ w xs) where
  pub none_left : w [] ≡ false → length xs ≤ k → false ≡ w xs
  none_left empty l = sym empty ∙ ap w (sym (drop_all k xs l)) ∙ so_far

  module _ (x : X) (more : k < length xs) (is : x ≡ get_or xs k x) where
    here : w (drop k xs) ≡ (f x || w (drop (k + 1) xs))
    here =
        let n : k + 1 ≡ suc k = omega arith in
        let s : drop k xs ≡ x ∷ drop (k + 1) xs = rw (n, drop-cons xs k x more, ← is) refl in
        ap w s ∙ each x (drop (k + 1) xs)

    pub found : true ≡ f x → true ≡ w xs
    found t = ap (λ b. b || w (drop (k + 1) xs)) t ∙ sym here ∙ so_far

    pub not_found : false ≡ f x → w (drop (k + 1) xs) ≡ w xs
    not_found t = ap (λ b. b || w (drop (k + 1) xs)) t ∙ sym here ∙ so_far
