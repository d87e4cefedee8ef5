-- The numbers of a range that pass a test, counted one after another.
use Rattle.std.proofs.Common.{◌≡◌, ℕ, zero, suc, ◌+◌, Bool, true, false, cond, [], ◌∷◌, ◌++◌, length, length-append, filter, sym, ap, ◌∙◌, arith}
use Rattle.std.specs.List.{range_with_len}
use Rattle.std.proofs.lemmas.List.Elements.{filter-append}

range_more : (a n j : ℕ) → a + n ≡ j → range_with_len a (suc n) ≡ range_with_len a n ++ j ∷ []
range_more a zero j e = let same : a ≡ j = omega arith in ap (λ k. k ∷ []) same
range_more a (suc n) j e = ap (λ l. a ∷ l) (range_more (a + 1) n j (omega arith))

module _ (p : ℕ → Bool) (k count : ℕ) (so_far : count ≡ length (filter p (range_with_len 0 k))) where
  one_more : length (filter p (range_with_len 0 (k + 1))) ≡ count + length (cond (p k) (k ∷ []) [])
  one_more =
      let next : k + 1 ≡ suc k = omega arith in
      ap (λ n. length (filter p (range_with_len 0 n))) next
      ∙ ap (λ l. length (filter p l)) (range_more 0 k k (omega arith))
      ∙ ap length (filter-append p (range_with_len 0 k) (k ∷ []))
      ∙ length-append (filter p (range_with_len 0 k)) (cond (p k) (k ∷ []) [])
      ∙ ap (λ n. n + length (cond (p k) (k ∷ []) [])) (sym so_far)

  pub counted_one : true ≡ p k → (new : ℕ) → new ≡ count + 1 → new ≡ length (filter p (range_with_len 0 (k + 1)))
  counted_one t new e = e ∙ ap (λ b. count + length (cond b (k ∷ []) [])) t ∙ sym one_more

  pub counted_none : false ≡ p k → (new : ℕ) → new ≡ count → new ≡ length (filter p (range_with_len 0 (k + 1)))
  counted_none t new e = let same : count ≡ count + 0 = omega arith in e ∙ same ∙ ap (λ b. count + length (cond b (k ∷ []) [])) t ∙ sym one_more
