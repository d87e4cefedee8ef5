-- The entries of a term, one after another.
use Rattle.std.proofs.Common.{◌≡◌, ℕ, suc, ◌+◌, ◌-◌, ◌<◌, ◌≤◌, Bool, true, false, cond, List, [], ◌∷◌, ◌++◌, filter, append_assoc, append-nil, refl, sym, ap, ◌∙◌, arith}
use Rattle.std.specs.List.{range_with_len}

module _ (p : ℕ → Bool) (count k : ℕ) (known whole : List ℕ) (so_far : known ++ filter p (range_with_len k (count - k)) ≡ whole) where
  split : (rest : List ℕ) (b : Bool) → cond b (k ∷ rest) rest ≡ cond b (k ∷ []) [] ++ rest
  split rest true = refl
  split rest false = refl

  pub one_more : k < count → (new : List ℕ) → new ≡ known ++ filter p (k ∷ []) → new ++ filter p (range_with_len (k + 1) (count - (k + 1))) ≡ whole
  one_more more new n =
      let left : count - k ≡ suc (count - (k + 1)) = omega arith in
      let next : k + 1 ≡ suc k = omega arith in
      let rest : filter p (range_with_len k (count - k)) ≡ filter p (k ∷ []) ++ filter p (range_with_len (k + 1) (count - (k + 1))) = rw (left, next) (split (filter p (range_with_len (suc k) (count - suc k))) (p k)) in
      ap (λ l. l ++ filter p (range_with_len (k + 1) (count - (k + 1)))) n
      ∙ append_assoc known (filter p (k ∷ [])) (filter p (range_with_len (k + 1) (count - (k + 1))))
      ∙ ap (λ l. known ++ l) (sym rest)
      ∙ so_far

  pub no_more : count ≤ k → known ≡ whole
  no_more past =
      let none : count - k ≡ 0 = omega arith in
      sym (append-nil known) ∙ ap (λ n. known ++ filter p (range_with_len k n)) (sym none) ∙ so_far
