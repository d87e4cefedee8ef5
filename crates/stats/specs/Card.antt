-- The estimated number of combinations of rows of a set of entries on which the conditions over them are true.
use Rattle.std.specs.Prelude.{ℕ, ◌*◌, ◌/◌, ◌^◌, ◌==◌, Bool, not, ◌&&◌, max, min, List, length, map, filter, slice_index_or}
use Rattle.std.specs.List.{fold, list_all, range_with_len}
use Rattle.expr.specs.declared.bound.ColumnId.{ColumnId}
use Rattle.expr.specs.Bound.{BoundExpr}
use Rattle.expr.specs.Columns.{columns}
use Rattle.stats.specs.Statistics.{Stats, Unknown, row_count}
use Rattle.stats.specs.Factors.{factor, million}

-- a set of entries, as the test of its members
abbrev pub Entries : Type 0
Entries = ℕ → Bool

-- a condition as the estimates see it: the columns that it names, and its factor
pub record Selection : Type 0 where
  pub columns : List ColumnId
  pub factor : ℕ

abbrev pub selection : List Stats → BoundExpr → Selection
selection of e = record { columns = columns e; factor = factor of e }

abbrev pub selections : List Stats → List BoundExpr → List Selection
selections of conditions = map (selection of) conditions

-- the condition names entries, and each of them is of the set
abbrev pub is_about : Entries → Selection → Bool
is_about entries s = not (length s.columns == 0) && list_all (λ id. entries id.entry) s.columns

-- no estimate is more
abbrev pub most_rows : ℕ
most_rows = 2 ^ 40

-- so many combinations with each of so many rows: at least 1, and no more than the most
abbrev pub times : ℕ → (rows : ℕ) → ℕ
times v rows = max 1 (min (v * rows) most_rows)

-- the part of so many that a factor leaves, at least 1
abbrev pub reduced : ℕ → (factor : ℕ) → ℕ
reduced v f = max 1 (v * f / million)

abbrev pub rows_at : List Stats → (entry : ℕ) → ℕ
rows_at of entry = row_count (slice_index_or of entry Unknown)

-- the rows of the entries of the set, in the order of FROM
abbrev pub all_rows : List Stats → Entries → ℕ
all_rows of entries = fold times 1 (map (rows_at of) (filter entries (range_with_len 0 (length of))))

-- reduced by each condition over them
abbrev pub card : List Stats → List Selection → Entries → ℕ
card of conditions entries = fold reduced (all_rows of entries) (map (λ s. s.factor) (filter (is_about entries) conditions))
