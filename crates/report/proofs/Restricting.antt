-- Restricted rows of combinations.
use Rattle.std.proofs.Common.{◌≡◌, ◌∙◌, ℕ, zero, suc, ◌+◌, ◌==◌, Bool, true, false, cond, List, [], ◌∷◌, map, filter, slice_index_or, refl, ap, arith, Contains, subst}
use Rattle.std.specs.List.{list_any}
use Rattle.memory.proofs.Cases.{or_second}
use Rattle.value.specs.Datum.{Row, cell, null}
use Rattle.value.specs.Restricted.{is_one_of, restricted}
use Rattle.value.proofs.Restricted.{cell_of_restricted}
use Rattle.expr.specs.declared.bound.ColumnId.{ColumnId}
use Rattle.eval.specs.Laws.{AgreeOn}
use Rattle.expr.specs.BoundQuery.{BoundQuery}
use Rattle.tuples.specs.Combinations.{Combination, joined_cells}
use Rattle.expr.specs.NamedColumns.{named_columns}
use Rattle.row_marks.proofs.MarkOutcomes.{itself}
use Rattle.report.specs.Restricted.{columns_at, named_in}
use Rattle.report.proofs.ChangedRows.{each_row}

-- ---- a column that is kept is as it was

-- the index of a column is among those of the columns of its entry
pub place_among : (ids : List ColumnId) (id : ColumnId) → Contains ids id → is_one_of (columns_at id.entry ids) id.column ≡ true
place_among [] id c = absurd (none c)
  where
    none : Contains {X = ColumnId} [] id → ⊥
    none c = omega (arith, c.1)
place_among (x ∷ ids) id (zero, less, is) = rw (← is, itself x.entry, itself x.column)
place_among (x ∷ ids) id (suc k, less, is) = past (x.entry == id.entry) (place_among ids id (k, omega (arith, less), is))
  where
    past : (b : Bool) → list_any (λ c. c == id.column) (map (λ y. y.column) (filter (λ y. y.entry == id.entry) ids)) ≡ true
        → list_any (λ c. c == id.column) (map (λ y. y.column) (cond b (x ∷ filter (λ y. y.entry == id.entry) ids) (filter (λ y. y.entry == id.entry) ids))) ≡ true
    past true h = or_second (x.column == id.column) _ h
    past false h = h

-- ---- the row of each entry, changed in other columns

cell_of_each : (f : ℕ → Row → Row) (n : ℕ) (these : Combination) (i k : ℕ) → ((row : Row) → cell (f (n + i) row) k ≡ cell row k) → cell (slice_index_or (each_row f n these) i []) k ≡ cell (slice_index_or these i []) k
cell_of_each f n [] i k h = refl
cell_of_each f n (row ∷ rows) zero k h = let e : n + 0 ≡ n = omega arith in subst (λ m. cell (f m row) k ≡ cell row k) e (h row)
cell_of_each f n (row ∷ rows) (suc i) k h =
    let e : n + suc i ≡ n + 1 + i = omega arith in
    cell_of_each f (n + 1) rows i k (subst (λ m. (other : Row) → cell (f m other) k ≡ cell other k) e h)

-- ---- the rows of each entry, restricted to its columns that a query names

abbrev pub to_named : BoundQuery → ℕ → Row → Row
to_named q entry = restricted (named_in q entry)

-- the columns that the query names of a combination are as they were
pub named_kept : (q : BoundQuery) (these : Combination) → AgreeOn (named_columns q) (joined_cells (each_row (to_named q) 0 these)) (joined_cells these)
named_kept q these = record {
  columns = λ id within.
      let e : id.entry ≡ 0 + id.entry = omega arith in
      let kept : (row : Row) → cell (to_named q id.entry row) id.column ≡ cell row id.column = λ row. cell_of_restricted (named_in q id.entry) row id.column ∙ ap (λ b. cond b (cell row id.column) null) (place_among (named_columns q) id within) in
      cell_of_each (to_named q) 0 these id.entry id.column (subst (λ n. (row : Row) → cell (to_named q n row) id.column ≡ cell row id.column) e kept);
  aggregates = λ offset. refl;
}
