-- A column of texts, by its fields.
use Rattle.std.proofs.Common.{◌≡◌, ℕ, ◌+◌, ◌<◌, ◌≤◌, Bool, true, false, List, [], ◌∷◌, ◌++◌, length, take, get_or, All, IsUtf8, refl, sym, ap, subst, ◌∙◌, arith, length-append}
use Rattle.std.specs.List.{slice_range}
use Rattle.std.specs.Simd.Lanes.{zip2}
use Rattle.std.proofs.lemmas.List.{length-take-le}
use Rattle.std.proofs.lemmas.List.Elements.{All-push, All-take, All-nil}
use Rattle.std.proofs.lemmas.Simd.{length-zip2}
use Rattle.value.specs.Datum.{null, text}
use Rattle.columns.specs.Columns.{text_unless, texts_from, texts_of}
use Rattle.columns.specs.Ends.{end_before}
use Rattle.columns.specs.View.{EndsAscend, TextsHold}
use Rattle.columns.proofs.Zips.{zip2_push, zip2_take, zip2_at}
use Rattle.columns.proofs.Runs.{ascend_more, ascend_at, ascend_cut, cut_within, length-texts, text_at, texts_more, texts_cut}

module _ (bytes ends : List ℕ) (nulls : List Bool) (good : TextsHold bytes ends nulls) where
  many : length nulls ≡ length (texts_from bytes 0 ends)
  many = good.bits ∙ sym (length-texts bytes 0 ends)

  pub length-view : length (texts_of bytes ends nulls) ≡ length nulls
  length-view = length-zip2 text_unless (texts_from bytes 0 ends) nulls (sym many) ∙ sym many

  -- one more
  module _ (t : List ℕ) (b : Bool) (bytes' ends' : List ℕ) (nulls' : List Bool) (eb : bytes' ≡ bytes ++ t) (ee : ends' ≡ ends ++ (length bytes + length t) ∷ []) (en : nulls' ≡ nulls ++ b ∷ []) where
    new_texts : texts_from bytes' 0 ends' ≡ texts_from bytes 0 ends ++ t ∷ []
    new_texts = (λ i. texts_from (eb i) 0 (ee i)) ∙ texts_more bytes t 0 ends good.ascend

    pub more_view : texts_of bytes' ends' nulls' ≡ texts_of bytes ends nulls ++ text_unless t b ∷ []
    more_view = ap (λ l. texts_of bytes' ends' l) en ∙ ap (λ l. zip2 text_unless l (nulls ++ b ∷ [])) new_texts ∙ zip2_push text_unless (texts_from bytes 0 ends) nulls t b many

    long : length bytes' ≡ length bytes + length t
    long = ap length eb ∙ length-append bytes t

    pub more_good : IsUtf8 t → TextsHold bytes' ends' nulls'
    more_good u = record {
      bits = omega (arith, ap length en, ap length ee, length-append nulls (b ∷ []), length-append ends ((length bytes + length t) ∷ []), good.bits);
      ascend = subst (λ l. EndsAscend 0 l (length bytes')) (sym ee) (subst (λ n. EndsAscend 0 (ends ++ n ∷ []) (length bytes')) long (ascend_more 0 ends (length bytes) (length bytes') good.ascend (omega (arith, long))));
      utf8 = subst (All IsUtf8) (sym new_texts) (All-push IsUtf8 (texts_from bytes 0 ends) t good.utf8 u);
    }

  -- fewer
  module _ (n : ℕ) (le : n ≤ length nulls) (bytes' ends' : List ℕ) (nulls' : List Bool) (eb : bytes' ≡ take (end_before 0 ends n) bytes) (ee : ends' ≡ take n ends) (en : nulls' ≡ take n nulls) where
    cut_texts : texts_from bytes' 0 ends' ≡ take n (texts_from bytes 0 ends)
    cut_texts = (λ i. texts_from (eb i) 0 (ee i)) ∙ texts_cut bytes 0 ends n good.ascend (omega (arith, good.bits))

    pub cut_view : texts_of bytes' ends' nulls' ≡ take n (texts_of bytes ends nulls)
    cut_view = ap (λ l. texts_of bytes' ends' l) en ∙ ap (λ l. zip2 text_unless l (take n nulls)) cut_texts ∙ zip2_take text_unless n (texts_from bytes 0 ends) nulls

    pub cut_good : TextsHold bytes' ends' nulls'
    cut_good = record {
      bits = ap length en ∙ length-take-le n nulls le ∙ sym (ap length ee ∙ length-take-le n ends (omega (arith, good.bits)));
      ascend = subst (λ l. EndsAscend 0 l (length bytes')) (sym ee)
          (subst (EndsAscend 0 (take n ends)) (sym (ap length eb ∙ length-take-le (end_before 0 ends n) bytes (cut_within bytes 0 ends n good.ascend (omega (arith, good.bits))))) (ascend_cut 0 ends (length bytes) n good.ascend (omega (arith, good.bits))));
      utf8 = subst (All IsUtf8) (sym cut_texts) (All-take IsUtf8 n (texts_from bytes 0 ends) good.utf8);
    }

  -- one of them
  module _ (i : ℕ) (lt : i < length nulls) where
    pub bounds : (end_before 0 ends i ≤ get_or ends i 0) × (get_or ends i 0 ≤ length bytes)
    bounds = ascend_at 0 ends (length bytes) i good.ascend (omega (arith, good.bits))

    pub part_is_text : IsUtf8 (slice_range bytes (end_before 0 ends i) (get_or ends i 0))
    part_is_text = subst IsUtf8 (text_at bytes 0 ends i [] (omega (arith, good.bits))) (good.utf8 i [] (omega (arith, many)))

    pub at_null : true ≡ get_or nulls i false → null ≡ get_or (texts_of bytes ends nulls) i null
    at_null e = zip2_at text_unless (texts_from bytes 0 ends) nulls i [] null true (omega (arith, many)) many e

    pub at_text : false ≡ get_or nulls i false → text (slice_range bytes (end_before 0 ends i) (get_or ends i 0)) ≡ get_or (texts_of bytes ends nulls) i null
    at_text e = ap (λ t. text t) (sym (text_at bytes 0 ends i [] (omega (arith, good.bits)))) ∙ zip2_at text_unless (texts_from bytes 0 ends) nulls i [] null false (omega (arith, many)) many e

-- no texts
module _ (bytes ends : List ℕ) (nulls : List Bool) (eb : bytes ≡ []) (ee : ends ≡ []) (en : nulls ≡ []) where
  pub none_view : texts_of bytes ends nulls ≡ []
  unfolding texts_from
  none_view = ap (λ l. texts_of bytes l nulls) ee

  pub none_hold : TextsHold bytes ends nulls
  unfolding texts_from EndsAscend
  none_hold = record {
    bits = ap length en ∙ sym (ap length ee);
    ascend = subst (λ l. EndsAscend 0 l (length bytes)) (sym ee) (sym (ap length eb));
    utf8 = subst (λ l. All IsUtf8 (texts_from bytes 0 l)) (sym ee) (All-nil IsUtf8);
  }

pub no_text : IsUtf8 []
no_text = ([], (refl, refl))
