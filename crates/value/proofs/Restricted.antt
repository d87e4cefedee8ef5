-- Restricted rows.
use Rattle.std.proofs.Common.{◌≡◌, ℕ, zero, suc, ◌+◌, Bool, true, false, cond, if◌then◌else◌, List, [], ◌∷◌, map, refl, sym, ap, ap₂, ◌∙◌, arith, add-zero, zero-add}
use Rattle.std.proofs.lemmas.Simd.{map-map}
use Rattle.value.specs.Datum.{Datum, Row, cell, null}
use Rattle.value.specs.Restricted.{IsWithin, is_one_of, kept_from, restricted}

-- ---- restricted twice, the second time to fewer columns

cell_again : (a b : Bool) (d : Datum) → (b ≡ true → a ≡ true) → (if b then (if a then d else null) else null) ≡ (if b then d else null)
cell_again a false d h = refl
cell_again true true d h = refl
cell_again false true d h = absurd (let e = h refl in cc)

again_from : (i : ℕ) (some all : List ℕ) (row : Row) → IsWithin some all → kept_from i some (kept_from i all row) ≡ kept_from i some row
again_from i some all [] h = refl
again_from i some all (d ∷ ds) h = ap₂ (λ d ds. d ∷ ds) (cell_again (is_one_of all i) (is_one_of some i) d (h i)) (again_from (i + 1) some all ds h)

pub again : (some all : List ℕ) (rows : List Row) → IsWithin some all → map (restricted some) (map (restricted all) rows) ≡ map (restricted some) rows
again some all rows h = map-map (restricted some) (restricted all) rows ∙ (λ i. map (λ row. again_from 0 some all row h i) rows)

-- ---- a column that is kept is as it was, and the others are null

cell_from : (i : ℕ) (columns : List ℕ) (row : Row) (k : ℕ) → cell (kept_from i columns row) k ≡ cond (is_one_of columns (i + k)) (cell row k) null
cell_from i columns [] k = elim (is_one_of columns (i + k)) as (λ b. null ≡ cond b null null) [ true ↦ refl | false ↦ refl ]
cell_from i columns (d ∷ ds) zero = ap (λ n. cond (is_one_of columns n) d null) (sym (add-zero i))
cell_from i columns (d ∷ ds) (suc k) =
    let e : i + 1 + k ≡ i + suc k = omega arith in
    cell_from (i + 1) columns ds k ∙ ap (λ n. cond (is_one_of columns n) (cell ds k) null) e

pub cell_of_restricted : (columns : List ℕ) (row : Row) (k : ℕ) → cell (restricted columns row) k ≡ cond (is_one_of columns k) (cell row k) null
cell_of_restricted columns row k = cell_from 0 columns row k ∙ ap (λ n. cond (is_one_of columns n) (cell row k) null) (zero-add k)
