-- Logic of three values, a word of each mask at a time.
use Rattle.std.proofs.Common.{◌≡◌, ℕ, zero, suc, ◌+◌, ◌-◌, ◌/◌, ◌%◌, ◌^◌, ◌<◌, ◌≤◌, ◌⊎◌, inl, inr, min, max, Bool, true, false, not, ◌&&◌, ◌||◌, cond, List, [], ◌∷◌, length, map, get_or, refl, sym, ap, subst, ◌*◌, ◌∙◌, arith, bit_and, bit_or, w64}
use Rattle.std.specs.Int.{bit_at, bit_not}
use Rattle.std.specs.Simd.Lanes.{zip2}
use Rattle.std.proofs.lemmas.Nat.Bits.{bit_at_and, bit_at_or, bit_at_not, bit_at-zero}
use Rattle.std.proofs.lemmas.List.{get_or_past, length-map}
use Rattle.std.proofs.lemmas.Simd.{length-zip2}
use Rattle.std.proofs.Math.Bool.{and-true, and-false}
use Rattle.std.proofs.lemmas.Bool.{cases_lt}
use Rattle.value.specs.Orders.{is_true, is_unknown}
use Rattle.value.specs.Truths.{least, greatest, negated}
use Rattle.value.specs.declared.order.Truth.{Truth}
use Rattle.value.specs.declared.order.Truth.TheVariants.{False, Unknown, True}
use Rattle.columns.specs.Bits.{IsMaskOf, words_for}
use Rattle.columns.specs.Comparing.{Show}
use lib.Bits.{and_le_r}

-- the words of a result: from the words that show two truth values
abbrev pub Word : Type 0
Word = ℕ → ℕ → ℕ → ℕ → ℕ

abbrev pub both_true : Word
both_true t n u m = bit_and t u

-- where neither is false, and not both are true
abbrev pub both_null : Word
both_null t n u m = bit_and (bit_and (bit_or t n) (bit_or u m)) (bit_not w64 (bit_and t u))

abbrev pub either_true : Word
either_true t n u m = bit_or t u

-- where one is null, and neither is true
abbrev pub either_null : Word
either_null t n u m = bit_and (bit_and (bit_or n m) (bit_not w64 t)) (bit_not w64 u)

-- a bit of the word is that test of the bits
abbrev IsTest : Word → (Bool → Bool → Bool → Bool → Bool) → Type 0
IsTest w g = (t n u m i : ℕ) (a b c d : Bool) → t < 2 ^ 64 → u < 2 ^ 64 → i < 64 → bit_at t i ≡ cond a 1 0 → bit_at n i ≡ cond b 1 0 → bit_at u i ≡ cond c 1 0 → bit_at m i ≡ cond d 1 0 → bit_at (w t n u m) i ≡ cond (g a b c d) 1 0

and_bit : (a b : Bool) → min (cond a 1 0) (cond b 1 0) ≡ cond (a && b) 1 0
and_bit true true = refl
and_bit true false = refl
and_bit false true = refl
and_bit false false = refl

or_bit : (a b : Bool) → max (cond a 1 0) (cond b 1 0) ≡ cond (a || b) 1 0
or_bit true true = refl
or_bit true false = refl
or_bit false true = refl
or_bit false false = refl

not_bit : (a : Bool) → 1 - cond a 1 0 ≡ cond (not a) 1 0
not_bit true = refl
not_bit false = refl

-- each connective of words, at a bit
pub and_is : (x y i : ℕ) (a b : Bool) → bit_at x i ≡ cond a 1 0 → bit_at y i ≡ cond b 1 0 → bit_at (bit_and x y) i ≡ cond (a && b) 1 0
and_is x y i a b p q = bit_at_and x y i ∙ (λ j. min (p j) (q j)) ∙ and_bit a b

pub or_is : (x y i : ℕ) (a b : Bool) → bit_at x i ≡ cond a 1 0 → bit_at y i ≡ cond b 1 0 → bit_at (bit_or x y) i ≡ cond (a || b) 1 0
or_is x y i a b p q = bit_at_or x y i ∙ (λ j. max (p j) (q j)) ∙ or_bit a b

pub not_is : (x i : ℕ) (a : Bool) → x < 2 ^ 64 → i < 64 → bit_at x i ≡ cond a 1 0 → bit_at (bit_not w64 x) i ≡ cond (not a) 1 0
not_is x i a fits within p = bit_at_not w64 x i fits within ∙ ap (λ n. 1 - n) p ∙ not_bit a

abbrev true_test : Bool → Bool → Bool → Bool → Bool
true_test a b c d = a && c

abbrev null_test : Bool → Bool → Bool → Bool → Bool
null_test a b c d = ((a || b) && (c || d)) && not (a && c)

true_is_test : IsTest both_true true_test
true_is_test t n u m i a b c d tf fits within p q r s = and_is t u i a c p r

null_is_test : IsTest both_null null_test
null_is_test t n u m i a b c d tf fits within p q r s =
    and_is (bit_and (bit_or t n) (bit_or u m)) (bit_not w64 (bit_and t u)) i ((a || b) && (c || d)) (not (a && c))
    (and_is (bit_or t n) (bit_or u m) i (a || b) (c || d) (or_is t n i a b p q) (or_is u m i c d r s))
    (not_is (bit_and t u) i (a && c) (omega (arith, and_le_r t u)) within (and_is t u i a c p r))

abbrev or_true_test : Bool → Bool → Bool → Bool → Bool
or_true_test a b c d = a || c

abbrev or_null_test : Bool → Bool → Bool → Bool → Bool
or_null_test a b c d = ((b || d) && not a) && not c

or_true_is_test : IsTest either_true or_true_test
or_true_is_test t n u m i a b c d tf fits within p q r s = or_is t u i a c p r

or_null_is_test : IsTest either_null or_null_test
or_null_is_test t n u m i a b c d tf fits within p q r s =
    and_is (bit_and (bit_or n m) (bit_not w64 t)) (bit_not w64 u) i ((b || d) && not a) (not c)
    (and_is (bit_or n m) (bit_not w64 t) i (b || d) (not a) (or_is n m i b d q s) (not_is t i a tf within p)) (not_is u i c fits within r)

-- a test of two truth values by what shows them, item by item
module _ (f : Truth → Truth → Truth) (s : Truth → Bool) (g : Bool → Bool → Bool → Bool → Bool) (same : (x y : Truth) → s (f x y) ≡ g (is_true x) (is_unknown x) (is_true y) (is_unknown y)) (none : g false false false false ≡ false) where
  at_item : (xs ys : List Truth) (i : ℕ) → length xs ≡ length ys
      → get_or (map s (zip2 f xs ys)) i false ≡ g (get_or (map is_true xs) i false) (get_or (map is_unknown xs) i false) (get_or (map is_true ys) i false) (get_or (map is_unknown ys) i false)
  at_item [] [] i e = sym none
  at_item [] (y ∷ ys) i e = absurd (omega arith)
  at_item (x ∷ xs) [] i e = absurd (omega arith)
  at_item (x ∷ xs) (y ∷ ys) zero e = same x y
  at_item (x ∷ xs) (y ∷ ys) (suc i) e = at_item xs ys i (omega arith)

  -- the mask of the test, from the masks of the operands
  pub mask_is : (w : Word) → IsTest w g → (xs ys : List Truth) (t n u m new : List ℕ) → length xs ≡ length ys → Show xs t n → Show ys u m
      → length new ≡ length t → ((j : ℕ) → get_or t j 0 < 2 ^ 64) → ((j : ℕ) → get_or u j 0 < 2 ^ 64)
      → ((j : ℕ) → j < length t → get_or new j 0 ≡ w (get_or t j 0) (get_or n j 0) (get_or u j 0) (get_or m j 0))
      → IsMaskOf (map s (zip2 f xs ys)) new
  mask_is w test xs ys t n u m new e first second long tfits fits words =
      let many : length (map s (zip2 f xs ys)) ≡ length xs = length-map (zip2 f xs ys) s ∙ length-zip2 f xs ys e in
      let many' : length (map is_true xs) ≡ length xs = length-map xs is_true in
      record {
        long = long ∙ first.true_bits.long ∙ ap words_for (many' ∙ sym many);
        each = λ i.
            let case : (i / 64 < length t) ⊎ (length t ≤ i / 64) = cases_lt (i / 64) (length t) in
            elim case [
              | inl within ↦ ap (λ word. bit_at word (i % 64)) (words (i / 64) within)
                  ∙ test (get_or t (i / 64) 0) (get_or n (i / 64) 0) (get_or u (i / 64) 0) (get_or m (i / 64) 0) (i % 64)
                  (get_or (map is_true xs) i false) (get_or (map is_unknown xs) i false) (get_or (map is_true ys) i false) (get_or (map is_unknown ys) i false)
                  (tfits (i / 64)) (fits (i / 64)) (omega arith) (first.true_bits.each i) (first.null_bits.each i) (second.true_bits.each i) (second.null_bits.each i)
                  ∙ sym (ap (λ b. cond b 1 0) (at_item xs ys i e))
              | inr past ↦
                  let gone : length xs ≤ i = omega (arith, first.true_bits.long, many') in
                  ap (λ word. bit_at word (i % 64)) (get_or_past new (i / 64) 0 (omega arith)) ∙ bit_at-zero (i % 64)
                  ∙ sym (ap (λ b. cond b 1 0) (get_or_past (map s (zip2 f xs ys)) i false (omega arith)))
            ];
      }

least_true : (x y : Truth) → is_true (least x y) ≡ true_test (is_true x) (is_unknown x) (is_true y) (is_unknown y)
least_true False False = refl
least_true False Unknown = refl
least_true False True = refl
least_true Unknown False = refl
least_true Unknown Unknown = refl
least_true Unknown True = refl
least_true True False = refl
least_true True Unknown = refl
least_true True True = refl

least_null : (x y : Truth) → is_unknown (least x y) ≡ null_test (is_true x) (is_unknown x) (is_true y) (is_unknown y)
least_null False False = refl
least_null False Unknown = refl
least_null False True = refl
least_null Unknown False = refl
least_null Unknown Unknown = refl
least_null Unknown True = refl
least_null True False = refl
least_null True Unknown = refl
least_null True True = refl

greatest_true : (x y : Truth) → is_true (greatest x y) ≡ or_true_test (is_true x) (is_unknown x) (is_true y) (is_unknown y)
greatest_true False False = refl
greatest_true False Unknown = refl
greatest_true False True = refl
greatest_true Unknown False = refl
greatest_true Unknown Unknown = refl
greatest_true Unknown True = refl
greatest_true True False = refl
greatest_true True Unknown = refl
greatest_true True True = refl

greatest_null : (x y : Truth) → is_unknown (greatest x y) ≡ or_null_test (is_true x) (is_unknown x) (is_true y) (is_unknown y)
greatest_null False False = refl
greatest_null False Unknown = refl
greatest_null False True = refl
greatest_null Unknown False = refl
greatest_null Unknown Unknown = refl
greatest_null Unknown True = refl
greatest_null True False = refl
greatest_null True Unknown = refl
greatest_null True True = refl

module _ (xs ys : List Truth) (t n u m : List ℕ) (e : length xs ≡ length ys) (first : Show xs t n) (second : Show ys u m) (tfits : (j : ℕ) → get_or t j 0 < 2 ^ 64) (fits : (j : ℕ) → get_or u j 0 < 2 ^ 64) where
  pub both_shown : (trues nulls : List ℕ) → length trues ≡ length t → length nulls ≡ length t
      → ((j : ℕ) → j < length t → get_or trues j 0 ≡ both_true (get_or t j 0) (get_or n j 0) (get_or u j 0) (get_or m j 0))
      → ((j : ℕ) → j < length t → get_or nulls j 0 ≡ both_null (get_or t j 0) (get_or n j 0) (get_or u j 0) (get_or m j 0))
      → Show (zip2 least xs ys) trues nulls
  both_shown trues nulls long long' words words' = record {
    true_bits = mask_is least is_true true_test least_true refl both_true true_is_test xs ys t n u m trues e first second long tfits fits words;
    null_bits = mask_is least is_unknown null_test least_null refl both_null null_is_test xs ys t n u m nulls e first second long' tfits fits words';
  }

  pub either_shown : (trues nulls : List ℕ) → length trues ≡ length t → length nulls ≡ length t
      → ((j : ℕ) → j < length t → get_or trues j 0 ≡ either_true (get_or t j 0) (get_or n j 0) (get_or u j 0) (get_or m j 0))
      → ((j : ℕ) → j < length t → get_or nulls j 0 ≡ either_null (get_or t j 0) (get_or n j 0) (get_or u j 0) (get_or m j 0))
      → Show (zip2 greatest xs ys) trues nulls
  either_shown trues nulls long long' words words' = record {
    true_bits = mask_is greatest is_true or_true_test greatest_true refl either_true or_true_is_test xs ys t n u m trues e first second long tfits fits words;
    null_bits = mask_is greatest is_unknown or_null_test greatest_null refl either_null or_null_is_test xs ys t n u m nulls e first second long' tfits fits words';
  }

-- ---- not

negated_true : (x : Truth) → is_true (negated x) ≡ (not (is_true x) && not (is_unknown x))
negated_true False = refl
negated_true Unknown = refl
negated_true True = refl

negated_null : (x : Truth) → is_unknown (negated x) ≡ is_unknown x
negated_null False = refl
negated_null Unknown = refl
negated_null True = refl

negated_at : (xs : List Truth) (i : ℕ) → i < length xs
    → get_or (map is_true (map negated xs)) i false ≡ (not (get_or (map is_true xs) i false) && not (get_or (map is_unknown xs) i false))
negated_at [] i lt = absurd (omega arith)
negated_at (x ∷ xs) zero lt = negated_true x
negated_at (x ∷ xs) (suc i) lt = negated_at xs i (omega arith)

nulls_stay : (xs : List Truth) → map is_unknown (map negated xs) ≡ map is_unknown xs
nulls_stay [] = refl
nulls_stay (x ∷ xs) = λ i. negated_null x i ∷ nulls_stay xs i

-- word j of the result: neither bit of the operand, among the bits that stand for items
pub record IsInside (len j t n new : ℕ) : Type 0 where
  pub inside : ℕ
  pub is : new ≡ bit_and (bit_and (bit_not w64 t) (bit_not w64 n)) inside
  pub items : (i : ℕ) → i < 64 → j * 64 + i < len → bit_at inside i ≡ 1
  pub past : (i : ℕ) → i < 64 → len ≤ j * 64 + i → bit_at inside i ≡ 0

-- the operand has a bit for a true item or an unknown one, and the result where there is an item and neither bit
pub negation_shown : (xs : List Truth) (t n new : List ℕ) → Show xs t n → length new ≡ length t → ((j : ℕ) → get_or t j 0 < 2 ^ 64) → ((j : ℕ) → get_or n j 0 < 2 ^ 64)
    → ((j : ℕ) → j < length t → IsInside (length xs) j (get_or t j 0) (get_or n j 0) (get_or new j 0)) → Show (map negated xs) new n
negation_shown xs t n new shown long tfits nfits words =
    let many : length (map is_true (map negated xs)) ≡ length xs = length-map (map negated xs) is_true ∙ length-map xs negated in
    let many' : length (map is_true xs) ≡ length xs = length-map xs is_true in
    record {
      true_bits = record {
        long = long ∙ shown.true_bits.long ∙ ap words_for (many' ∙ sym many);
        each = λ i.
            let a = get_or (map is_true xs) i false in
            let b = get_or (map is_unknown xs) i false in
            let w = get_or t (i / 64) 0 in
            let v = get_or n (i / 64) 0 in
            let case : (i / 64 < length t) ⊎ (length t ≤ i / 64) = cases_lt (i / 64) (length t) in
            elim case [
              | inl within ↦
                  let neither = and_is (bit_not w64 w) (bit_not w64 v) (i % 64) (not a) (not b)
                  (not_is w (i % 64) a (tfits (i / 64)) (omega arith) (shown.true_bits.each i)) (not_is v (i % 64) b (nfits (i / 64)) (omega arith) (shown.null_bits.each i)) in
                  let word = words (i / 64) within in
                  let item : (i < length xs) ⊎ (length xs ≤ i) = cases_lt i (length xs) in
                  ap (λ x. bit_at x (i % 64)) word.is
                  ∙ elim item [
                    | inl lt ↦ and_is (bit_and (bit_not w64 w) (bit_not w64 v)) word.inside (i % 64) (not a && not b) true neither (word.items (i % 64) (omega arith) (omega arith))
                        ∙ ap (λ c. cond c 1 0) (and-true (not a && not b) ∙ sym (negated_at xs i lt))
                    | inr over ↦ and_is (bit_and (bit_not w64 w) (bit_not w64 v)) word.inside (i % 64) (not a && not b) false neither (word.past (i % 64) (omega arith) (omega arith))
                        ∙ ap (λ c. cond c 1 0) (and-false (not a && not b) ∙ sym (get_or_past (map is_true (map negated xs)) i false (omega arith)))
                  ]
              | inr past ↦
                  let gone : length xs ≤ i = omega (arith, shown.true_bits.long, many') in
                  ap (λ word. bit_at word (i % 64)) (get_or_past new (i / 64) 0 (omega arith)) ∙ bit_at-zero (i % 64)
                  ∙ sym (ap (λ c. cond c 1 0) (get_or_past (map is_true (map negated xs)) i false (omega arith)))
            ];
      };
      null_bits = subst (λ l. IsMaskOf l n) (sym (nulls_stay xs)) shown.null_bits;
    }
