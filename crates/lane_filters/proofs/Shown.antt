-- Truth values are read back from the masks that show them.
use Rattle.std.proofs.Common.{◌≡◌, ℕ, zero, suc, ◌+◌, ◌/◌, ◌%◌, ◌<◌, ◌≤◌, ◌⊎◌, inl, inr, Bool, true, false, cond, ℤ, List, [], ◌∷◌, ◌++◌, length, map, take, drop, get_or, replicate, append-nil, refl, sym, ap, subst, ◌∙◌, arith}
use Rattle.std.specs.Int.{bit_at}
use Rattle.std.proofs.lemmas.Bool.{cases_lt}
use Rattle.std.proofs.lemmas.List.{get_or_past, get_or-map, get_or-replicate, length-map, length-replicate, take_all}
use Rattle.std.proofs.lemmas.Nat.Bits.{bit_at-zero}
use Rattle.std.proofs.Math.ListN.{drop_of_length-le}
use Rattle.value.specs.Datum.{Datum, null, int, text, bool}
use Rattle.std.proofs.lemmas.Simd.{length-zip2}
use Rattle.value.specs.Orders.{is_true, is_unknown}
use Rattle.value.specs.Truths.{negated}
use Rattle.columns.specs.Columns.{int_unless, ints_of}
use Rattle.value.specs.declared.order.Truth.{Truth}
use Rattle.value.specs.declared.order.Truth.TheVariants.{False, Unknown, True}
use Rattle.columns.specs.Optional.{is_null}
use Rattle.eval.specs.Operators.{null_test}
use Rattle.columns.specs.Bits.{bit_of, words_for, IsMaskOf}
use Rattle.columns.specs.Comparing.{Show}
use Rattle.lane_filters.specs.View.{truth_by, truths_from}

by_case : (x : Truth) → truth_by (cond (is_true x) 1 0) (cond (is_unknown x) 1 0) ≡ x
by_case False = refl
by_case Unknown = refl
by_case True = refl

module _ (trues nulls : List ℕ) where
  by_bits : (xs : List Truth) (j : ℕ) → ((i k : ℕ) → j + i ≡ k → bit_of trues k ≡ cond (get_or (map is_true xs) i false) 1 0)
      → ((i k : ℕ) → j + i ≡ k → bit_of nulls k ≡ cond (get_or (map is_unknown xs) i false) 1 0) → truths_from trues nulls j (length xs) ≡ xs
  unfolding truths_from
  by_bits [] j t n = refl
  by_bits (x ∷ xs) j t n =
      let here : truth_by (bit_of trues j) (bit_of nulls j) ≡ x = (λ q. truth_by (t 0 j (omega arith) q) (n 0 j (omega arith) q)) ∙ by_case x in
      λ p. here p ∷ by_bits xs (j + 1) (λ i k e. t (suc i) k (omega arith)) (λ i k e. n (suc i) k (omega arith)) p

  read_back : (xs : List Truth) → Show xs trues nulls → truths_from trues nulls 0 (length xs) ≡ xs
  read_back xs s =
      by_bits xs 0 (λ i k e. let same : k ≡ i = omega arith in ap (bit_of trues) same ∙ s.true_bits.each i)
      (λ i k e. let same : k ≡ i = omega arith in ap (bit_of nulls) same ∙ s.null_bits.each i)

  pub read_as : (xs : List Truth) (n : ℕ) → n ≡ length xs → Show xs trues nulls → truths_from trues nulls 0 n ≡ xs
  read_as xs n e s = ap (truths_from trues nulls 0) e ∙ read_back xs s

  pub shown : (xs : List Truth) (n : ℕ) → n ≡ length xs → Show xs trues nulls → Show (truths_from trues nulls 0 n) trues nulls
  shown xs n e s = subst (λ (ts : List Truth). Show ts trues nulls) (sym (read_as xs n e s)) s

  pub length-truths : (j n : ℕ) → length (truths_from trues nulls j n) ≡ n
  unfolding truths_from
  length-truths j zero = refl
  length-truths j (suc n) = ap suc (length-truths (j + 1) n)

-- the words of masks that are read back
module _ (trues nulls : List ℕ) (n : ℕ) (s : Show (truths_from trues nulls 0 n) trues nulls) where
  pub true_words : length trues ≡ words_for n
  true_words = s.true_bits.long ∙ ap words_for (length-map (truths_from trues nulls 0 n) is_true ∙ length-truths trues nulls 0 n)

  pub null_words : length nulls ≡ words_for n
  null_words = s.null_bits.long ∙ ap words_for (length-map (truths_from trues nulls 0 n) is_unknown ∙ length-truths trues nulls 0 n)

-- the same of masks that are equal to those
module _ (xs : List Truth) (trues nulls ts ns : List ℕ) (n : ℕ) (et : trues ≡ ts) (en : nulls ≡ ns) (e : n ≡ length xs) (s : Show xs ts ns) where
  pub same_masks : Show xs trues nulls
  same_masks = subst (λ (l : List ℕ). Show xs l nulls) (sym et) (subst (λ (l : List ℕ). Show xs ts l) (sym en) s)

  pub held : Show (truths_from trues nulls 0 n) trues nulls
  held = shown trues nulls xs n e same_masks

  pub read : truths_from trues nulls 0 n ≡ xs
  read = read_as trues nulls xs n e same_masks

-- a slice that is the whole of a list, written back
pub written_back : (n : ℕ) (ws items : List ℕ) → length ws ≡ length items → n ≡ length items → take n (ws ++ drop (length ws) items) ≡ ws
written_back n ws items e d =
    ap (λ l. take n (ws ++ l)) (drop_of_length-le items (omega arith)) ∙ ap (take n) (append-nil ws) ∙ take_all n ws (omega arith)

-- ---- words with no bit set

zero_at : (n k : ℕ) → get_or {A = ℕ} (replicate {A = ℕ} n 0) k 0 ≡ 0
zero_at n k =
    let case : (k < n) ⊎ (n ≤ k) = cases_lt k n in
    elim case [ inl lt ↦ get_or-replicate n k 0 0 lt | inr le ↦ get_or_past (replicate n 0) k 0 (omega (arith, length-replicate {A = ℕ} n 0)) ]

none_set : (bs : List Bool) (ws : List ℕ) (n : ℕ) → ((i : ℕ) → get_or bs i false ≡ false) → n ≡ words_for (length bs) → ws ≡ replicate n 0 → IsMaskOf bs ws
none_set bs ws n none many e = record {
  long = ap length e ∙ length-replicate {A = ℕ} n 0 ∙ many;
  each = λ i. ap (λ l. bit_of l i) e ∙ ap (λ w. bit_at w (i % 64)) (zero_at n (i / 64)) ∙ bit_at-zero (i % 64) ∙ sym (ap (λ b. cond b 1 0) (none i));
}

same_all : (f : Truth → Bool) (n i : ℕ) → f False ≡ false → get_or (map f (replicate n False)) i false ≡ false
same_all f n i h =
    let case : (i < n) ⊎ (n ≤ i) = cases_lt i n in
    elim case [
      | inl lt ↦ get_or-map f (replicate n False) i False false (omega (arith, length-replicate n False)) ∙ ap f (get_or-replicate n i False False lt) ∙ h
      | inr le ↦ get_or_past (map f (replicate n False)) i false (omega (arith, length-map (replicate n False) f, length-replicate n False))
    ]

pub false_shown : (n m : ℕ) (trues nulls : List ℕ) → m ≡ words_for n → trues ≡ replicate m 0 → nulls ≡ replicate m 0 → Show (replicate n False) trues nulls
false_shown n m trues nulls many et en =
    let words : (f : Truth → Bool) → m ≡ words_for (length (map f (replicate n False))) = λ f. many ∙ ap words_for (sym (length-map (replicate n False) f ∙ length-replicate n False)) in
    record {
      true_bits = none_set (map is_true (replicate n False)) trues m (λ i. same_all is_true n i refl) (words is_true) et;
      null_bits = none_set (map is_unknown (replicate n False)) nulls m (λ i. same_all is_unknown n i refl) (words is_unknown) en;
    }

pub negated_false : (n : ℕ) → map negated (replicate n False) ≡ replicate n True
negated_false zero = refl
negated_false (suc n) = λ p. True ∷ negated_false n p

pub same_of_columns : (xs ys : List ℤ) (bs cs : List Bool) (left right : List Datum) → length bs ≡ length xs → length cs ≡ length ys → ints_of xs bs ≡ left → ints_of ys cs ≡ right
    → length right ≡ length left → length ys ≡ length xs
same_of_columns xs ys bs cs left right eb ec el er e =
    sym (length-zip2 int_unless ys cs (sym ec)) ∙ ap length er ∙ e ∙ sym (ap length el) ∙ length-zip2 int_unless xs bs (sym eb)

-- ---- nulls

null_is_true : (cells : List Datum) → map is_null cells ≡ map is_true (map null_test cells)
null_is_true [] = refl
null_is_true (null ∷ cells) = λ p. true ∷ null_is_true cells p
null_is_true (int n ∷ cells) = λ p. false ∷ null_is_true cells p
null_is_true (text t ∷ cells) = λ p. false ∷ null_is_true cells p
null_is_true (bool b ∷ cells) = λ p. false ∷ null_is_true cells p

never_null : (cells : List Datum) (i : ℕ) → get_or (map is_unknown (map null_test cells)) i false ≡ false
never_null [] i = refl
never_null (null ∷ cells) zero = refl
never_null (int n ∷ cells) zero = refl
never_null (text t ∷ cells) zero = refl
never_null (bool b ∷ cells) zero = refl
never_null (d ∷ cells) (suc i) = never_null cells i

pub nulls_shown : (cells : List Datum) (words nulls : List ℕ) (n : ℕ) → IsMaskOf (map is_null cells) words → n ≡ length words → nulls ≡ replicate n 0 → Show (map null_test cells) words nulls
nulls_shown cells words nulls n mask many e = record {
  true_bits = subst (λ (bs : List Bool). IsMaskOf bs words) (null_is_true cells) mask;
  null_bits = none_set (map is_unknown (map null_test cells)) nulls n (never_null cells)
      (many ∙ mask.long ∙ ap words_for (length-map cells is_null ∙ sym (length-map (map null_test cells) is_unknown ∙ length-map cells null_test))) e;
}
