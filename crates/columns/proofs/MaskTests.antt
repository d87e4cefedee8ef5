-- Masks of words, bit by bit.
use Rattle.std.proofs.Common.{◌≡◌, ℕ, ◌+◌, ◌-◌, ◌*◌, ◌/◌, ◌%◌, ◌^◌, ◌<◌, ◌≤◌, ◌⊎◌, inl, inr, Bool, false, cond, min, List, length, get_or, sym, ap, ◌∙◌, arith, w64, bit_and}
use Rattle.std.specs.Int.{bit_at, bit_not}
use Rattle.std.specs.Simd.Lanes.{chunk, mask_l}
use Rattle.std.proofs.lemmas.Nat.Bits.{bit_at_and, bit_at_not, bit_at-zero}
use Rattle.std.proofs.lemmas.Simd.{bit_mask_l, get_or-chunk}
use Rattle.std.proofs.lemmas.List.{get_or_past}
use Rattle.std.proofs.lemmas.Bool.{cases_lt}
use Rattle.columns.specs.Bits.{bit_of, words_for}

-- the bit of a word of two, and of the word of those that another has not
pub bit_and_not : (a b i : ℕ) → b < 2 ^ 64 → i < 64 → bit_at (bit_and a (bit_not w64 b)) i ≡ min (bit_at a i) (1 - bit_at b i)
bit_and_not a b i fits within = bit_at_and a (bit_not w64 b) i ∙ ap (min (bit_at a i)) (bit_at_not w64 b i fits within)

module _ (tests : List Bool) where
  -- a word of the mask of tests, at the bit of an item
  pub bit_of_tests : (i : ℕ) → bit_at (mask_l (chunk (i / 64 * 64) 64 tests)) (i % 64) ≡ cond (get_or tests i false) 1 0
  bit_of_tests i =
      let same_index : i / 64 * 64 + i % 64 ≡ i = omega arith in
      bit_mask_l (chunk (i / 64 * 64) 64 tests) (i % 64)
      ∙ ap (λ b. cond b 1 0) (get_or-chunk (i / 64 * 64) 64 tests (i % 64) false (omega arith) ∙ ap (λ k. get_or tests k false) same_index)

  -- the bits of a mask whose words are those of the tests, less those of another mask
  pub bits_without : (nulls ws : List ℕ) → length ws ≡ words_for (length tests)
      → ((k : ℕ) → k < length ws → get_or ws k 0 ≡ bit_and (mask_l (chunk (k * 64) 64 tests)) (bit_not w64 (get_or nulls k 0)))
      → ((k : ℕ) → get_or nulls k 0 < 2 ^ 64)
      → (i : ℕ) → bit_of ws i ≡ min (cond (get_or tests i false) 1 0) (1 - bit_of nulls i)
  bits_without nulls ws long words fit i =
      let case : (i / 64 < length ws) ⊎ (length ws ≤ i / 64) = cases_lt (i / 64) (length ws) in
      elim case [
        | inl within ↦ ap (λ w. bit_at w (i % 64)) (words (i / 64) within)
            ∙ bit_and_not (mask_l (chunk (i / 64 * 64) 64 tests)) (get_or nulls (i / 64) 0) (i % 64) (fit (i / 64)) (omega arith)
            ∙ ap (λ b. min b (1 - bit_of nulls i)) (bit_of_tests i)
        | inr past ↦
            let none : get_or tests i false ≡ false = get_or_past tests i false (omega (arith, long)) in
            ap (λ w. bit_at w (i % 64)) (get_or_past ws (i / 64) 0 past) ∙ bit_at-zero (i % 64) ∙ sym (ap (λ b. min (cond b 1 0) (1 - bit_of nulls i)) none ∙ omega arith)
      ]
