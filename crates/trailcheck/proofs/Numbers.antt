-- Numbers, one after another.
use Rattle.std.proofs.Common.{◌≡◌, ℕ, zero, suc, ◌+◌, ◌-◌, ◌<◌, Bool, false, ◌||◌, [], ◌∷◌, ◌++◌, sym, ap, refl, ◌∙◌, arith}
use Rattle.std.specs.List.{list_any, range_with_len}

-- one number more
range_more : (a n : ℕ) → range_with_len a (suc n) ≡ range_with_len a n ++ (a + n) ∷ []
range_more a zero = let e : a + 0 ≡ a = omega arith in rw e refl
range_more a (suc n) = let e : a + suc n ≡ a + 1 + n = omega arith in rw e (ap (λ l. a ∷ l) (range_more (a + 1) n))

pub numbers_more : (n : ℕ) → range_with_len 0 (n + 1) ≡ range_with_len 0 n ++ n ∷ []
numbers_more n = let e : n + 1 ≡ suc n = omega arith in let z : 0 + n ≡ n = omega arith in rw e (range_more 0 n ∙ ap (λ k. range_with_len 0 n ++ k ∷ []) z)

-- the next number does not pass the test
module _ (p : ℕ → Bool) (count k : ℕ) (whole : Bool) (so_far : list_any p (range_with_len k (count - k)) ≡ whole) where
  pub none_yet : k < count → p k ≡ false → list_any p (range_with_len (k + 1) (count - (k + 1))) ≡ whole
  none_yet more fails =
      let left : count - k ≡ suc (count - (k + 1)) = omega arith in
      let rest : list_any p (range_with_len k (count - k)) ≡ p k || list_any p (range_with_len (k + 1) (count - (k + 1))) = rw left refl in
      sym (ap (λ b. b || list_any p (range_with_len (k + 1) (count - (k + 1)))) fails) ∙ sym rest ∙ so_far
