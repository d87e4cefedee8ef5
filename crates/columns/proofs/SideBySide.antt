-- Two columns side by side: lanes, bits and truth values.
use Rattle.std.proofs.Common.{◌≡◌, ℕ, ◌-◌, ◌*◌, ◌/◌, ◌%◌, ◌^◌, ◌<◌, ◌≤◌, ◌⊎◌, inl, inr, ℤ, pos, Bool, true, false, not, ◌&&◌, ◌||◌, cond, List, [], ◌∷◌, length, map, get_or, refl, sym, ap, ◌∙◌, arith, w64, All, FitsSigned, of_z, bit_and, bit_or}
use Rattle.std.specs.Int.{bit_at, bit_not}
use Rattle.std.specs.List.{AllByRecursion}
use Rattle.std.specs.Simd.Lanes.{chunk, mask_l, top, zip2}
use Rattle.std.specs.declared.cmp.Ordering.{Ordering}
use Rattle.std.specs.Ordering.{int_cmp}
use Rattle.std.proofs.Math.Bool.{and-true, and-false}
use Rattle.std.proofs.lemmas.Bool.{cases_lt}
use Rattle.std.proofs.lemmas.List.{get_or_past, get_or-map, length-map}
use Rattle.std.proofs.lemmas.List.Elements.{recursion_from_All}
use Rattle.std.proofs.lemmas.Nat.Bits.{bit_at-zero}
use Rattle.std.proofs.lemmas.Simd.{tops_compared, mask_l-mod, get_or-zip2, length-zip2}
use Rattle.value.proofs.Conditions.{true_bool}
use Rattle.value.specs.Datum.{null, int}
use Rattle.value.specs.Orders.{compared, datum_cmp, is_true, is_unknown}
use Rattle.value.specs.declared.order.Truth.{Truth}
use Rattle.columns.specs.Bits.{IsMaskOf, words_for}
use Rattle.columns.specs.Columns.{int_unless, ints_of}
use Rattle.columns.specs.Comparing.{Show}
use Rattle.columns.proofs.MaskTests.{bit_of_tests}
use Rattle.columns.proofs.Truths.{known, int_order}
use Rattle.columns.proofs.Words.{and_is, or_is, not_is}

-- ---- lanes

tested_both : (s : ℕ → ℕ → Bool) (q : ℤ → ℤ → Bool) → ((x y : ℤ) → FitsSigned w64 x → FitsSigned w64 y → s (of_z w64 x) (of_z w64 y) ≡ q x y)
    → (xs ys : List ℤ) → AllByRecursion (FitsSigned w64) xs → AllByRecursion (FitsSigned w64) ys → zip2 s (map (of_z w64) xs) (map (of_z w64) ys) ≡ zip2 q xs ys
tested_both s q same [] ys f g = refl
tested_both s q same (x ∷ xs) [] f g = refl
tested_both s q same (x ∷ xs) (y ∷ ys) f g = λ i. same x y f.0 g.0 i ∷ tested_both s q same xs ys f.1 g.1 i

tested_swapped : (s : ℕ → ℕ → Bool) (q : ℤ → ℤ → Bool) → ((x y : ℤ) → FitsSigned w64 x → FitsSigned w64 y → s (of_z w64 y) (of_z w64 x) ≡ q x y)
    → (xs ys : List ℤ) → AllByRecursion (FitsSigned w64) xs → AllByRecursion (FitsSigned w64) ys → zip2 s (map (of_z w64) ys) (map (of_z w64) xs) ≡ zip2 q xs ys
tested_swapped s q same [] [] f g = refl
tested_swapped s q same [] (y ∷ ys) f g = refl
tested_swapped s q same (x ∷ xs) [] f g = refl
tested_swapped s q same (x ∷ xs) (y ∷ ys) f g = λ i. same x y f.0 g.0 i ∷ tested_swapped s q same xs ys f.1 g.1 i

module _ (s : ℕ → ℕ → Bool) (q : ℤ → ℤ → Bool) (xs ys : List ℤ) (fx : All (FitsSigned w64) xs) (fy : All (FitsSigned w64) ys) (long : length xs ≡ 64) (long' : length ys ≡ 64) where
  short : length (zip2 q xs ys) ≤ 64
  short = omega (arith, length-zip2 q xs ys (long ∙ sym long'))

  pub pairs_compared : ((x y : ℤ) → FitsSigned w64 x → FitsSigned w64 y → s (of_z w64 x) (of_z w64 y) ≡ q x y)
      → mask_l (map (top 63) (zip2 (λ a b. cond (s a b) (2 ^ 64 - 1) 0) (map (of_z w64) xs) (map (of_z w64) ys))) % 2 ^ 64 ≡ mask_l (zip2 q xs ys)
  pairs_compared same =
      ap (λ ms. mask_l ms % 2 ^ 64) (tops_compared w64 s (map (of_z w64) xs) (map (of_z w64) ys) ∙ tested_both s q same xs ys (recursion_from_All (FitsSigned w64) xs fx) (recursion_from_All (FitsSigned w64) ys fy))
      ∙ mask_l-mod (zip2 q xs ys) 64 short

  pub pairs_swapped : ((x y : ℤ) → FitsSigned w64 x → FitsSigned w64 y → s (of_z w64 y) (of_z w64 x) ≡ q x y)
      → mask_l (map (top 63) (zip2 (λ a b. cond (s a b) (2 ^ 64 - 1) 0) (map (of_z w64) ys) (map (of_z w64) xs))) % 2 ^ 64 ≡ mask_l (zip2 q xs ys)
  pairs_swapped same =
      ap (λ ms. mask_l ms % 2 ^ 64) (tops_compared w64 s (map (of_z w64) ys) (map (of_z w64) xs) ∙ tested_swapped s q same xs ys (recursion_from_All (FitsSigned w64) xs fx) (recursion_from_All (FitsSigned w64) ys fy))
      ∙ mask_l-mod (zip2 q xs ys) 64 short

-- ---- truth values

module _ (t : Ordering → Bool) where
  pair_true : (x y : ℤ) (b c : Bool) → is_true (compared t (int_unless x b) (int_unless y c)) ≡ ((t (int_cmp x y) && not b) && not c)
  pair_true x y true c = sym (ap (λ h. h && not c) (and-false (t (int_cmp x y))))
  pair_true x y false true = sym (and-false (t (int_cmp x y) && true))
  pair_true x y false false = true_bool (t (datum_cmp (int x) (int y))) ∙ ap t (int_order x y) ∙ sym (and-true (t (int_cmp x y) && true) ∙ and-true (t (int_cmp x y)))

  pair_unknown : (x y : ℤ) (b c : Bool) → is_unknown (compared t (int_unless x b) (int_unless y c)) ≡ (b || c)
  pair_unknown x y true c = refl
  pair_unknown x y false true = refl
  pair_unknown x y false false = known (t (datum_cmp (int x) (int y)))

  -- a comparison of columns: true where it holds and neither value is null, and null where one is
  module _ (xs ys : List ℤ) (bs cs : List Bool) (e : length ys ≡ length xs) (eb : length bs ≡ length xs) (ec : length cs ≡ length xs) where
    lefts : length (ints_of xs bs) ≡ length xs
    lefts = length-zip2 int_unless xs bs (sym eb)

    rights : length (ints_of ys cs) ≡ length xs
    rights = length-zip2 int_unless ys cs (e ∙ sym ec) ∙ e

    many : (f : Truth → Bool) → length (map f (zip2 (compared t) (ints_of xs bs) (ints_of ys cs))) ≡ length xs
    many f = length-map (zip2 (compared t) (ints_of xs bs) (ints_of ys cs)) f ∙ length-zip2 (compared t) (ints_of xs bs) (ints_of ys cs) (lefts ∙ sym rights) ∙ lefts

    at : (f : Truth → Bool) (i : ℕ) → i < length xs
        → get_or (map f (zip2 (compared t) (ints_of xs bs) (ints_of ys cs))) i false
        ≡ f (compared t (int_unless (get_or xs i (pos 0)) (get_or bs i false)) (int_unless (get_or ys i (pos 0)) (get_or cs i false)))
    at f i lt =
        get_or-map f (zip2 (compared t) (ints_of xs bs) (ints_of ys cs)) i (compared t null null) false (omega (arith, length-zip2 (compared t) (ints_of xs bs) (ints_of ys cs) (lefts ∙ sym rights), lefts))
        ∙ ap f (get_or-zip2 (compared t) (ints_of xs bs) (ints_of ys cs) i null null (compared t null null) (omega (arith, lefts)) (omega (arith, rights))
        ∙ λ j. compared t (get_or-zip2 int_unless xs bs i (pos 0) false null lt (omega arith) j) (get_or-zip2 int_unless ys cs i (pos 0) false null (omega arith) (omega arith) j))

    test_at : (i : ℕ) → i < length xs → get_or (zip2 (λ x y. t (int_cmp x y)) xs ys) i false ≡ t (int_cmp (get_or xs i (pos 0)) (get_or ys i (pos 0)))
    test_at i lt = get_or-zip2 (λ x y. t (int_cmp x y)) xs ys i (pos 0) (pos 0) false lt (omega arith)

    pub pairs_shown : (nulls others trues unknown : List ℕ) → IsMaskOf bs nulls → IsMaskOf cs others → length trues ≡ words_for (length xs) → length unknown ≡ words_for (length xs)
        → ((j : ℕ) → get_or nulls j 0 < 2 ^ 64) → ((j : ℕ) → get_or others j 0 < 2 ^ 64)
        → ((j : ℕ) → j < length trues → get_or trues j 0 ≡ bit_and (bit_and (mask_l (chunk (j * 64) 64 (zip2 (λ x y. t (int_cmp x y)) xs ys))) (bit_not w64 (get_or nulls j 0))) (bit_not w64 (get_or others j 0)))
        → ((j : ℕ) → j < length trues → get_or unknown j 0 ≡ bit_or (get_or nulls j 0) (get_or others j 0))
        → Show (zip2 (compared t) (ints_of xs bs) (ints_of ys cs)) trues unknown
    pairs_shown nulls others trues unknown mb mc long long' nfit ofit words words' =
        let tests = zip2 (λ (x y : ℤ). t (int_cmp x y)) xs ys in
        record {
          true_bits = record {
            long = long ∙ ap words_for (sym (many is_true));
            each = λ i.
                let b = get_or bs i false in
                let c = get_or cs i false in
                let w = mask_l (chunk (i / 64 * 64) 64 tests) in
                let n = get_or nulls (i / 64) 0 in
                let m = get_or others (i / 64) 0 in
                let case : (i < length xs) ⊎ (length xs ≤ i) = cases_lt i (length xs) in
                let word : (i / 64 < length trues) ⊎ (length trues ≤ i / 64) = cases_lt (i / 64) (length trues) in
                let bits = and_is (bit_and w (bit_not w64 n)) (bit_not w64 m) (i % 64) (get_or tests i false && not b) (not c)
                (and_is w (bit_not w64 n) (i % 64) (get_or tests i false) (not b) (bit_of_tests tests i) (not_is n (i % 64) b (nfit (i / 64)) (omega arith) (mb.each i)))
                (not_is m (i % 64) c (ofit (i / 64)) (omega arith) (mc.each i)) in
                elim case [
                  | inl lt ↦ ap (λ x. bit_at x (i % 64)) (words (i / 64) (omega arith)) ∙ bits
                      ∙ ap (λ h. cond ((h && not b) && not c) 1 0) (test_at i lt) ∙ sym (ap (λ h. cond h 1 0) (at is_true i lt ∙ pair_true (get_or xs i (pos 0)) (get_or ys i (pos 0)) b c))
                  | inr past ↦
                      let gone : get_or (map is_true (zip2 (compared t) (ints_of xs bs) (ints_of ys cs))) i false ≡ false = get_or_past _ i false (omega (arith, many is_true)) in
                      let none : get_or tests i false ≡ false = get_or_past tests i false (omega (arith, length-zip2 (λ (x y : ℤ). t (int_cmp x y)) xs ys (sym e))) in
                      elim word [
                        | inl within ↦ ap (λ x. bit_at x (i % 64)) (words (i / 64) within) ∙ bits ∙ ap (λ h. cond ((h && not b) && not c) 1 0) none ∙ sym (ap (λ h. cond h 1 0) gone)
                        | inr after ↦ ap (λ x. bit_at x (i % 64)) (get_or_past trues (i / 64) 0 after) ∙ bit_at-zero (i % 64) ∙ sym (ap (λ h. cond h 1 0) gone)
                      ]
                ];
          };
          null_bits = record {
            long = long' ∙ ap words_for (sym (many is_unknown));
            each = λ i.
                let b = get_or bs i false in
                let c = get_or cs i false in
                let n = get_or nulls (i / 64) 0 in
                let m = get_or others (i / 64) 0 in
                let case : (i < length xs) ⊎ (length xs ≤ i) = cases_lt i (length xs) in
                let word : (i / 64 < length trues) ⊎ (length trues ≤ i / 64) = cases_lt (i / 64) (length trues) in
                let bits = or_is n m (i % 64) b c (mb.each i) (mc.each i) in
                elim case [
                  | inl lt ↦ ap (λ x. bit_at x (i % 64)) (words' (i / 64) (omega arith)) ∙ bits
                      ∙ sym (ap (λ h. cond h 1 0) (at is_unknown i lt ∙ pair_unknown (get_or xs i (pos 0)) (get_or ys i (pos 0)) b c))
                  | inr past ↦
                      let gone : get_or (map is_unknown (zip2 (compared t) (ints_of xs bs) (ints_of ys cs))) i false ≡ false = get_or_past _ i false (omega (arith, many is_unknown)) in
                      let nb : b ≡ false = get_or_past bs i false (omega arith) in
                      let nc : c ≡ false = get_or_past cs i false (omega arith) in
                      elim word [
                        | inl within ↦ ap (λ x. bit_at x (i % 64)) (words' (i / 64) within) ∙ bits ∙ (λ j. cond (nb j || nc j) 1 0) ∙ sym (ap (λ h. cond h 1 0) gone)
                        | inr after ↦ ap (λ x. bit_at x (i % 64)) (get_or_past unknown (i / 64) 0 (omega arith)) ∙ bit_at-zero (i % 64) ∙ sym (ap (λ h. cond h 1 0) gone)
                      ]
                ];
          };
        }
