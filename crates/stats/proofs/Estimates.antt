-- The steps of the estimates.
use Rattle.std.proofs.Common.{◌≡◌, ℕ, suc, ◌+◌, ◌-◌, ◌<◌, ◌≤◌, Bool, true, false, cond, List, [], ◌∷◌, length, map, filter, drop, drop-cons, get_or, slice_index_or, refl, sym, ap, ◌∙◌, arith}
use Rattle.std.specs.List.{fold, range_with_len}
use Rattle.std.proofs.Math.ListN.{drop_of_length-le}
use Rattle.std.proofs.lemmas.List.{get_or-map, length-map}
use Rattle.stats.specs.Factors.{million}
use Rattle.stats.specs.Statistics.{Stats, Unknown, row_count}
use Rattle.stats.proofs.Shares.{part_within}
use Rattle.stats.specs.Card.{Entries, Selection, all_rows, is_about, reduced, rows_at, times}

-- ---- the rows of each member

-- so many combinations, with the rows of each member from an index on
abbrev pub rows_from : List Stats → Entries → (rows index : ℕ) → ℕ
rows_from of entries rows index = fold times rows (map (rows_at of) (filter entries (range_with_len index (length of - index))))

pub rows_first : (of : List Stats) (entries : Entries) → rows_from of entries 1 0 ≡ all_rows of entries
rows_first of entries = let e : length of - 0 ≡ length of = omega arith in ap (λ n. fold times 1 (map (rows_at of) (filter entries (range_with_len 0 n)))) e

range_step : (i n : ℕ) → i < n → range_with_len i (n - i) ≡ i ∷ range_with_len (i + 1) (n - (i + 1))
range_step i n l = let e : n - i ≡ suc (n - (i + 1)) = omega arith in ap (range_with_len i) e

module _ {X : Type 0} (view : X → Stats) (xs : List X) (entries : Entries) (rows i : ℕ) where
  pub rows_over : length xs ≤ i → rows_from (map view xs) entries rows i ≡ rows
  rows_over l =
      let e : length (map view xs) - i ≡ 0 = omega (arith, length-map xs view) in
      ap (λ n. fold times rows (map (rows_at (map view xs)) (filter entries (range_with_len i n)))) e

  module _ (x : X) (more : i < length xs) (is : x ≡ get_or xs i x) where
    rows_step : rows_from (map view xs) entries rows i ≡ fold times rows (map (rows_at (map view xs)) (cond (entries i) (i ∷ filter entries (range_with_len (i + 1) (length (map view xs) - (i + 1)))) (filter entries (range_with_len (i + 1) (length (map view xs) - (i + 1))))))
    rows_step = ap (λ is. fold times rows (map (rows_at (map view xs)) (filter entries is))) (range_step i (length (map view xs)) (omega (arith, length-map xs view)))

    pub rows_of_member : (new : ℕ) → true ≡ entries i → new ≡ times rows (row_count (view x)) → rows_from (map view xs) entries new (i + 1) ≡ rows_from (map view xs) entries rows i
    rows_of_member new member n =
        let at : slice_index_or (map view xs) i Unknown ≡ view x = get_or-map view xs i x Unknown more ∙ ap view (sym is) in
        let rest = range_with_len (i + 1) (length (map view xs) - (i + 1)) in
        sym (rows_step ∙ ap (λ b. fold times rows (map (rows_at (map view xs)) (cond b (i ∷ filter entries rest) (filter entries rest)))) (sym member)
        ∙ ap (λ r. fold times r (map (rows_at (map view xs)) (filter entries rest))) (ap (λ s. times rows (row_count s)) at ∙ sym n))

    pub rows_of_other : (new : ℕ) → false ≡ entries i → new ≡ rows → rows_from (map view xs) entries new (i + 1) ≡ rows_from (map view xs) entries rows i
    rows_of_other new other n =
        let rest = range_with_len (i + 1) (length (map view xs) - (i + 1)) in
        sym (rows_step ∙ ap (λ b. fold times rows (map (rows_at (map view xs)) (cond b (i ∷ filter entries rest) (filter entries rest)))) (sym other)
        ∙ ap (λ r. fold times r (map (rows_at (map view xs)) (filter entries rest))) (sym n))

-- ---- the factors of the conditions that are about the members

-- reduced by each of some conditions over the members
abbrev pub reduced_by : Entries → (rows : ℕ) → List Selection → ℕ
reduced_by entries rows conditions = fold reduced rows (map (λ s. s.factor) (filter (is_about entries) conditions))

pub reduced_within : (v f most : ℕ) → f ≤ million → v ≤ most → 1 ≤ most → reduced v f ≤ most
reduced_within v f most l m n = omega (arith, part_within v f l)

module _ {X : Type 0} (view : X → Selection) (xs : List X) (entries : Entries) (rows i : ℕ) where
  pub conditions_over : length xs ≤ i → reduced_by entries rows (map view (drop i xs)) ≡ rows
  conditions_over l = let e : drop i xs ≡ [] = drop_of_length-le xs l in ap (λ ys. reduced_by entries rows (map view ys)) e

  module _ (x : X) (more : i < length xs) (is : x ≡ get_or xs i x) where
    conditions_step : drop i xs ≡ x ∷ drop (i + 1) xs
    conditions_step = let n : i + 1 ≡ suc i = omega arith in rw (n, drop-cons xs i x more, ← is) refl

    reduced_step : (b : Bool) → b ≡ is_about entries (view x)
        → reduced_by entries rows (map view (drop i xs)) ≡ fold reduced rows (map (λ s. s.factor) (cond b (view x ∷ filter (is_about entries) (map view (drop (i + 1) xs))) (filter (is_about entries) (map view (drop (i + 1) xs)))))
    reduced_step b e =
        ap (λ ys. reduced_by entries rows (map view ys)) conditions_step
        ∙ ap (λ b. fold reduced rows (map (λ s. s.factor) (cond b (view x ∷ filter (is_about entries) (map view (drop (i + 1) xs))) (filter (is_about entries) (map view (drop (i + 1) xs)))))) (sym e)

    pub reduced_by_it : (new : ℕ) → true ≡ is_about entries (view x) → new ≡ reduced rows (view x).factor → reduced_by entries new (map view (drop (i + 1) xs)) ≡ reduced_by entries rows (map view (drop i xs))
    reduced_by_it new about n = ap (λ r. reduced_by entries r (map view (drop (i + 1) xs))) n ∙ sym (reduced_step true about)

    pub not_reduced : (new : ℕ) → false ≡ is_about entries (view x) → new ≡ rows → reduced_by entries new (map view (drop (i + 1) xs)) ≡ reduced_by entries rows (map view (drop i xs))
    not_reduced new other n = ap (λ r. reduced_by entries r (map view (drop (i + 1) xs))) n ∙ sym (reduced_step false other)
