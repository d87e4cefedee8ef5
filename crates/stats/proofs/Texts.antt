-- The texts of a list, put into a set one by one.
use Rattle.std.proofs.Common.{◌≡◌, Bool, true, false, ◌||◌, not, Bor, ℕ, List, [], ◌∷◌, length, map, refl, sym, ap, ap₂, ◌∙◌, IsPermutation, is_eq, true≢false}
use Rattle.std.specs.Bool.{MatchBool}
use Rattle.std.specs.List.{IsDistinct, list_any}
use Rattle.std.specs.Set.{distinct_count, is_member}
use Rattle.std.specs.Str.{bytes_eq}
use Rattle.std.proofs.lemmas.Cmp.{nat_list_eq_equiv}
use Rattle.std.proofs.lemmas.List.{length-map, map-id}
use Rattle.std.proofs.lemmas.List.Sorted.{list_any-IsPermutation}
use Rattle.std.proofs.lemmas.Map.Made.{IsDistinct-from_count, distinct_count-from_IsDistinct, length-from_keys}
use Rattle.std.proofs.lemmas.Map.Text.{is_eq-slice_cmp}
use Rattle.std.proofs.lemmas.Slice.Eq.{bytes_eq-Decides}
use Rattle.stats.specs.Repeats.{is_repeated, without_repeats}
use Rattle.stats.proofs.Parts.{count_set, same_text, same_text_equiv, text_cmp}

-- one of the keys is the text
abbrev pub has_text : List ℕ → List (Bor (List ℕ)) → Bool
has_text t ks = list_any (λ k. bytes_eq t k.now) ks

same_in_order : (t u : List ℕ) → bytes_eq t u ≡ is_eq (text_cmp t u)
same_in_order t u = sym (is_eq-slice_cmp t u)

-- ---- with one more

module _ (t : List ℕ) (k : Bor (List ℕ)) (old new : List (Bor (List ℕ))) where
  has_put : (added : Bool) → added ≡ not (list_any (same_text k) old) → MatchBool added (IsPermutation (k ∷ old) new) (new ≡ old) → has_text t new ≡ (bytes_eq t k.now || has_text t old)
  has_put true is put = sym (list_any-IsPermutation (λ j. bytes_eq t j.now) (k ∷ old) new put)
  has_put false is put = ap (has_text t) put ∙ go (bytes_eq t k.now) (list_any (same_text k) old) refl refl is
    where
      go : (b c : Bool) → bytes_eq t k.now ≡ b → list_any (same_text k) old ≡ c → false ≡ not c → has_text t old ≡ (b || has_text t old)
      go false c e h n = refl
      go true true e h n = ap (λ u. has_text u old) ((bytes_eq-Decides t k.now).0 e) ∙ h
      go true false e h n = absurd (true≢false (sym n))

  regroup : (a b c : Bool) → ((a || b) || c) ≡ (b || (a || c))
  regroup true true c = refl
  regroup true false c = refl
  regroup false true c = refl
  regroup false false c = refl

  -- a text of the list is in the set or to come
  pub still_found : (added : Bool) (rest : List (List ℕ)) (whole : Bool) → added ≡ not (list_any (same_text k) old) → MatchBool added (IsPermutation (k ∷ old) new) (new ≡ old)
      → (has_text t old || is_repeated text_cmp t (k.now ∷ rest)) ≡ whole → (has_text t new || is_repeated text_cmp t rest) ≡ whole
  still_found added rest whole is put found =
      ap (λ b. b || is_repeated text_cmp t rest) (has_put added is put ∙ ap (λ b. b || has_text t old) (same_in_order t k.now))
      ∙ regroup (is_eq (text_cmp t k.now)) (has_text t old) (is_repeated text_cmp t rest)
      ∙ found

-- ---- in the end

-- no text is to come
pub all_found : (t : List ℕ) (ks : List (Bor (List ℕ))) (rest : List (List ℕ)) (whole : Bool) → rest ≡ [] → (has_text t ks || is_repeated text_cmp t rest) ≡ whole → has_text t ks ≡ whole
all_found t ks rest whole none found = go (has_text t ks) (ap (λ (l : List (List ℕ)). has_text t ks || is_repeated text_cmp t l) (sym none) ∙ found)
  where
    go : (b : Bool) → (b || false) ≡ whole → b ≡ whole
    go true e = e
    go false e = e

member_now : (t : List ℕ) (ks : List (Bor (List ℕ))) → is_member bytes_eq (map (λ k. k.now) ks) t ≡ has_text t ks
member_now t [] = refl
member_now t (k ∷ ks) = ap (λ b. bytes_eq t k.now || b) (member_now t ks)

member_repeated : (t : List ℕ) (ts : List (List ℕ)) → is_member bytes_eq ts t ≡ is_repeated text_cmp t ts
member_repeated t [] = refl
member_repeated t (u ∷ ts) = ap₂ ◌||◌ (same_in_order t u) (member_repeated t ts)

distinct_texts : (ts : List (List ℕ)) → distinct_count bytes_eq ts ≡ length (without_repeats text_cmp ts)
distinct_texts ts = count_set bytes_eq text_cmp (λ t. t) same_in_order ts ∙ ap (λ l. length (without_repeats text_cmp l)) (map-id ts)

-- the texts of a list are as many as the keys of a set that has them
pub count_texts : (ks : List (Bor (List ℕ))) (ts : List (List ℕ)) → IsDistinct same_text ks → ((t : List ℕ) → has_text t ks ≡ is_repeated text_cmp t ts) → length ks ≡ length (without_repeats text_cmp ts)
count_texts ks ts distinct found =
    let ns : List (List ℕ) = map (λ k. k.now) ks in
    let long : length ns ≡ length ks = length-map ks (λ k. k.now) in
    let whole : distinct_count bytes_eq ns ≡ length ns =
    distinct_texts ns
    ∙ sym (count_set same_text text_cmp (λ k. k.now) (λ a b. same_in_order a.now b.now) ks)
    ∙ distinct_count-from_IsDistinct same_text_equiv ks distinct
    ∙ sym long in
    sym long
    ∙ length-from_keys nat_list_eq_equiv ns ts (IsDistinct-from_count nat_list_eq_equiv ns whole) (λ t. member_now t ks ∙ found t ∙ sym (member_repeated t ts))
    ∙ distinct_texts ts
