-- The statistics of the rows that a role sees.
use Rattle.std.proofs.Common.{◌≡◌, ℕ, Bool, true, false, cond, List, [], ◌∷◌, length, map, refl, sym, ap, ap₂, ◌∙◌, IsPermutation}
use Rattle.std.specs.List.{range_with_len}
use Rattle.std.specs.Ordering.{int_cmp}
use Rattle.std.proofs.lemmas.Cmp.{back_total, int_cmp_total}
use Rattle.std.proofs.lemmas.List.{length-map}
use Rattle.std.proofs.lemmas.Map.Lookups.{exact_signed}
use Rattle.std.proofs.lemmas.List.Sorted.{IsPermutation-map}
use Rattle.bags.proofs.Bags.{SameSums-filter, SameSums-filter_map, SameSums-length, SameSums-map}
use Rattle.bags.proofs.Least.{least_same}
use Rattle.bags.proofs.Order.{SameSums, SameSums-IsPermutation, sorted_by-SameSums}
use Rattle.value.specs.Datum.{Datum, Row, cell, null}
use Rattle.value.specs.Orders.{datum_cmp}
use Rattle.value.specs.Restricted.{IsWithin, is_one_of, restricted}
use Rattle.value.proofs.DatumOrder.{datum_cmp_exact, datum_cmp_total}
use Rattle.value.proofs.Restricted.{again, cell_of_restricted}
use Rattle.stats.specs.declared.statistics.ColumnStats.{ColumnStats}
use Rattle.stats.specs.Repeats.{without_repeats}
use Rattle.stats.specs.Statistics.{Known, between, bounds_of, is_value, no_values, number_of, numbers, rows_stats, seen_stats, stats_of_values, values_in}
use Rattle.stats.proofs.Distinct.{count_sorted}

-- ---- a bag has one statistics

same_distinct : (xs ys : List Datum) → SameSums xs ys → length (without_repeats datum_cmp xs) ≡ length (without_repeats datum_cmp ys)
same_distinct xs ys same =
    sym (count_sorted datum_cmp datum_cmp_total xs)
    ∙ ap (λ l. length (without_repeats datum_cmp l)) (sorted_by-SameSums datum_cmp datum_cmp_total datum_cmp_exact xs ys same)
    ∙ count_sorted datum_cmp datum_cmp_total ys

same_bounds : (xs ys : List Datum) → SameSums xs ys → bounds_of (numbers xs) ≡ bounds_of (numbers ys)
same_bounds xs ys same =
    let alike = SameSums-filter_map xs ys same number_of in
    ap₂ between
    (least_same int_cmp int_cmp_total exact_signed (numbers xs) (numbers ys) alike)
    (least_same (λ x y. int_cmp y x) (back_total int_cmp_total) (λ x y e. sym (exact_signed y x e)) (numbers xs) (numbers ys) alike)

same_column : (xs ys : List Datum) → SameSums xs ys → stats_of_values xs ≡ stats_of_values ys
same_column xs ys same = ap₂ (λ n b. record { distinct = n; bounds = b }) (same_distinct xs ys same) (same_bounds xs ys same)

same_rows : (count : ℕ) (xs ys : List Row) → SameSums xs ys → rows_stats count xs ≡ rows_stats count ys
same_rows count xs ys same =
    let columns : (c : ℕ) → stats_of_values (values_in xs c) ≡ stats_of_values (values_in ys c) =
    λ c. same_column (values_in xs c) (values_in ys c) (SameSums-filter (map (λ row. cell row c) xs) (map (λ row. cell row c) ys) (SameSums-map xs ys same (λ row. cell row c)) is_value) in
    ap₂ Known (SameSums-length xs ys same) (λ i. map (λ c. columns c i) (range_with_len 0 count))

-- rows that are the same bag in columns that have all of these give the same statistics of these
pub seen_alike : (columns named : List ℕ) (count : ℕ) (one other : List Row) → IsWithin columns named
    → IsPermutation (map (restricted named) one) (map (restricted named) other) → seen_stats columns count one ≡ seen_stats columns count other
seen_alike columns named count one other within same =
    ap (rows_stats count) (sym (again columns named one within))
    ∙ same_rows count _ _ (SameSums-IsPermutation _ _ (IsPermutation-map (restricted columns) _ _ same))
    ∙ ap (rows_stats count) (again columns named other within)

-- ---- as they are counted: of the columns of the list alone

values_kept : (columns : List ℕ) (c : ℕ) (b : Bool) → is_one_of columns c ≡ b → (rows : List Row) → values_in (map (restricted columns) rows) c ≡ cond b (values_in rows c) []
values_kept columns c true e [] = refl
values_kept columns c false e [] = refl
values_kept columns c true e (row ∷ rows) =
    ap₂ (λ d vs. cond (is_value d) (d ∷ vs) vs) (cell_of_restricted columns row c ∙ ap (λ b. cond b (cell row c) null) e) (values_kept columns c true e rows)
values_kept columns c false e (row ∷ rows) =
    ap₂ (λ d vs. cond (is_value d) (d ∷ vs) vs) (cell_of_restricted columns row c ∙ ap (λ b. cond b (cell row c) null) e) (values_kept columns c false e rows)

column_kept : (columns : List ℕ) (rows : List Row) (c : ℕ) → stats_of_values (values_in (map (restricted columns) rows) c) ≡ cond (is_one_of columns c) (stats_of_values (values_in rows c)) no_values
column_kept columns rows c = go (is_one_of columns c) refl
  where
    go : (b : Bool) → is_one_of columns c ≡ b → stats_of_values (values_in (map (restricted columns) rows) c) ≡ cond b (stats_of_values (values_in rows c)) no_values
    go true e = ap stats_of_values (values_kept columns c true e rows)
    go false e = ap stats_of_values (values_kept columns c false e rows)

-- the statistics of a column, if it is one of those
abbrev pub counted : List ℕ → List Row → ℕ → ColumnStats
counted columns rows c = cond (is_one_of columns c) (stats_of_values (values_in rows c)) no_values

pub counted_alone : (columns : List ℕ) (count : ℕ) (seen : List Row) → seen_stats columns count seen ≡ Known (length seen) (map (counted columns seen) (range_with_len 0 count))
counted_alone columns count seen = ap₂ Known (length-map seen (restricted columns)) (λ i. map (λ c. column_kept columns seen c i) (range_with_len 0 count))
