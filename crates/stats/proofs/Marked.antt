-- Marked rows.
use Rattle.std.proofs.Common.{◌≡◌, ℕ, suc, ◌+◌, ◌<◌, ◌≤◌, Bool, true, false, cond, List, [], ◌∷◌, length, map, filter, drop, refl, sym, ap, ap₂, ◌∙◌, arith, subst}
use Rattle.std.proofs.lemmas.List.{drop_more, get_or-map}
use Rattle.value.specs.Datum.{Datum, Row, cell, null, row_at}
use Rattle.stats.specs.Marked.{count_marks, is_marked, marked, marked_from}
use Rattle.stats.specs.Statistics.{is_value, values_in}

-- the rows that a test marks are those that pass it
from_test : (marks : List Bool) (test : Row → Bool) (n : ℕ) (rows : List Row) → ((i : ℕ) → i < length rows → is_marked marks (n + i) ≡ test (row_at rows i)) → marked_from marks n rows ≡ filter test rows
from_test marks test n [] h = refl
from_test marks test n (row ∷ rows) h =
    let e : n + 0 ≡ n = omega arith in
    let here : is_marked marks n ≡ test row = subst (λ m. is_marked marks m ≡ test row) e (h 0 (omega arith)) in
    let later = from_test marks test (n + 1) rows (λ i lt. let next : n + suc i ≡ n + 1 + i = omega arith in subst (λ m. is_marked marks m ≡ test (row_at rows i)) next (h (suc i) (omega (arith, lt)))) in
    ap₂ (λ b l. cond b (row ∷ l) l) here later

pub marked_by : (test : Row → Bool) (rows : List Row) (marks : List Bool) → marks ≡ map test rows → marked marks rows ≡ filter test rows
marked_by test rows marks is = from_test marks test 0 rows (λ i lt. let e : 0 + i ≡ i = omega arith in rw (e, is) (get_or-map test rows i [] false lt))

pub marks_counted : (test : Row → Bool) (rows : List Row) → count_marks (map test rows) ≡ length (filter test rows)
marks_counted test [] = refl
marks_counted test (row ∷ rows) =
    elim (test row) as (λ b. length (cond b (b ∷ filter (λ m. m) (map test rows)) (filter (λ m. m) (map test rows))) ≡ length (cond b (row ∷ filter test rows) (filter test rows))) [
      | true ↦ ap suc (marks_counted test rows)
      | false ↦ marks_counted test rows
    ]

few_from : (marks : List Bool) (n : ℕ) (rows : List Row) → length (marked_from marks n rows) ≤ length rows
few_from marks n [] = omega arith
few_from marks n (row ∷ rows) =
    let more = few_from marks (n + 1) rows in
    elim (is_marked marks n) as (λ b. length (cond b (row ∷ marked_from marks (n + 1) rows) (marked_from marks (n + 1) rows)) ≤ length (row ∷ rows)) [ true ↦ omega (arith, more) | false ↦ omega (arith, more) ]

pub marked_few : (marks : List Bool) (rows : List Row) → length (marked marks rows) ≤ length rows
marked_few marks rows = few_from marks 0 rows

-- the values of the marked rows that are left begin with that of the next row, unless it is null or not marked
pub values_next : (marks : List Bool) (rows : List Row) (column i : ℕ) (d : Datum) → i < length rows → d ≡ cond (is_marked marks i) (cell (row_at rows i) column) null
    → values_in (marked_from marks i (drop i rows)) column ≡ cond (is_value d) (d ∷ values_in (marked_from marks (i + 1) (drop (i + 1) rows)) column) (values_in (marked_from marks (i + 1) (drop (i + 1) rows)) column)
values_next marks rows column i d lt is = ap (λ (l : List Row). values_in (marked_from marks i l) column) (drop_more rows i [] lt) ∙ go (is_marked marks i) is
  where
    rest : List Row
    rest = marked_from marks (i + 1) (drop (i + 1) rows)

    go : (b : Bool) → d ≡ cond b (cell (row_at rows i) column) null → values_in (cond b (row_at rows i ∷ rest) rest) column ≡ cond (is_value d) (d ∷ values_in rest column) (values_in rest column)
    go true e = ap (λ (f : Datum). cond (is_value f) (f ∷ values_in rest column) (values_in rest column)) (sym e)
    go false e = ap (λ (f : Datum). cond (is_value f) (f ∷ values_in rest column) (values_in rest column)) (sym e)
