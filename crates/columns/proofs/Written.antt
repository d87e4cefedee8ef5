-- Words that a loop writes, one after the other.
use Rattle.std.proofs.Common.{◌≡◌, ℕ, ◌+◌, ◌<◌, ◌≤◌, List, length, get_or, set, sym, subst, ◌∙◌, arith, below_more}
use Rattle.std.proofs.lemmas.List.{get_or-set_same, get_or-set_other}

module _ (ws : List ℕ) (k w : ℕ) where
  -- what holds of each word before k, and of the word written there, holds of each word up to k
  pub written : (P : ℕ → ℕ → Type 0) → k < length ws → ((j : ℕ) → j < k → P j (get_or ws j 0)) → P k w → (j : ℕ) → j < k + 1 → P j (get_or (set ws k w) j 0)
  written P within before here =
      below_more (λ j. P j (get_or (set ws k w) j 0)) k
      (λ j lt. subst (P j) (sym (get_or-set_other ws k j w 0 (λ e. omega (arith, e)))) (before j lt))
      (subst (P k) (sym (get_or-set_same ws k w 0 within)) here)

  -- the words after k are as before
  pub unwritten : (old : List ℕ) → ((j : ℕ) → k ≤ j → get_or ws j 0 ≡ get_or old j 0) → (j : ℕ) → k + 1 ≤ j → get_or (set ws k w) j 0 ≡ get_or old j 0
  unwritten old after j le = get_or-set_other ws k j w 0 (λ e. omega (arith, e)) ∙ after j (omega arith)
