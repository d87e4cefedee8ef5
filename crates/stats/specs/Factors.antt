-- The factor of a condition: how many of a million combinations of rows are expected to pass it.
use Rattle.std.specs.Prelude.{ℕ, zero, suc, ℤ, pos, negsuc, ◌+◌, ◌-◌, ◌*◌, ◌/◌, ◌-ℤ◌, int_lt, Bool, true, false, max, min, List, length, Option, Some, None, slice_index_or, if◌then◌else◌}
use Rattle.value.specs.Datum.{null, int, bool}
use Rattle.value.specs.declared.operators.Comparison as operators
use Rattle.value.specs.declared.operators.Comparison.TheVariants.{Equal, NotEqual, Less, LessOrEqual, Greater, GreaterOrEqual}
use Rattle.expr.specs.declared.bound.ColumnId.{ColumnId}
use Rattle.expr.specs.Bound.{BoundExpr, BoundExprs, no_expr, one_expr, Column, Literal, CurrentUser, Comparison, Between, In, IsNull, Not, And, Or}
use Rattle.stats.specs.declared.statistics.Bounds.{Bounds}
use Rattle.stats.specs.declared.statistics.ColumnStats.{ColumnStats}
use Rattle.stats.specs.Statistics.{Stats, Unknown, column_stats}

-- factors are in parts per million
abbrev pub million : ℕ
million = 1000000

-- of what no other rule names: a third
abbrev pub third : ℕ
third = 333333

-- of an equality with a column of so many distinct values: one of them is met
abbrev pub one_of : (distinct : ℕ) → ℕ
one_of zero = 100000
one_of (suc n) = million / suc n

-- ---- shares of the numbers between two bounds

-- the number, or 0 where it is negative
abbrev pub from_zero : ℤ → ℕ
from_zero (pos n) = n
from_zero (negsuc n) = 0

-- the part of the bounds that lies between two numbers
abbrev pub part : Bounds → (low high : ℤ) → ℕ
part b low high = min million (from_zero (high -ℤ low) * million / from_zero (b.greatest -ℤ b.least))

-- a part of the bounds, where they are known and apart; else another factor
abbrev pub part_or : (otherwise : ℕ) → (Bounds → ℕ) → Option Bounds → ℕ
part_or otherwise share None = otherwise
part_or otherwise share (Some b) = if int_lt b.least b.greatest then share b else otherwise

-- ---- conditions

abbrev pub negated_if : Bool → ℕ → ℕ
negated_if true f = million - f
negated_if false f = f

module _ (of : List Stats) where
  -- the statistics of a column of an entry
  abbrev pub stats_at : ColumnId → ColumnStats
  stats_at id = column_stats (slice_index_or of id.entry Unknown) id.column

  abbrev pub distinct_at : ColumnId → ℕ
  distinct_at id = (stats_at id).distinct

  -- an equality of columns meets one value of the column that has more of them
  abbrev pub equality : BoundExpr → BoundExpr → ℕ
  equality (Column a) (Column b) = one_of (max (distinct_at a) (distinct_at b))
  equality (Column a) (Literal d) = one_of (distinct_at a)
  equality (Column a) CurrentUser = one_of (distinct_at a)
  equality (Literal d) (Column a) = one_of (distinct_at a)
  equality CurrentUser (Column a) = one_of (distinct_at a)
  equality _ _ = third

  -- the numbers of a column below one, and above one
  abbrev pub less_than : BoundExpr → BoundExpr → ℕ
  less_than (Column a) (Literal (int v)) = part_or third (λ b. part b b.least v) (stats_at a).bounds
  less_than (Literal (int v)) (Column a) = part_or third (λ b. part b v b.greatest) (stats_at a).bounds
  less_than _ _ = third

  abbrev pub comparison : operators.Comparison → BoundExpr → BoundExpr → ℕ
  comparison Equal left right = equality left right
  comparison NotEqual left right = million - equality left right
  comparison Less left right = less_than left right
  comparison LessOrEqual left right = less_than left right
  comparison Greater left right = less_than right left
  comparison GreaterOrEqual left right = less_than right left

  -- a quarter, where the bounds of the column or the two numbers are not known
  abbrev pub range : BoundExpr → BoundExpr → BoundExpr → ℕ
  range (Column a) (Literal (int low)) (Literal (int high)) = part_or 250000 (λ b. part b low high) (stats_at a).bounds
  range (Column a) _ _ = 250000
  range _ _ _ = third

  -- an equality for each of so many values, and at most a half
  abbrev pub membership : BoundExpr → (values : ℕ) → ℕ
  membership (Column a) values = min 500000 (values * one_of (distinct_at a))
  membership _ values = third

  abbrev mutual
    pub factor : BoundExpr → ℕ
    factor (Literal null) = 0
    factor (Literal (bool false)) = 0
    factor (Literal (bool true)) = million
    factor (Comparison operator offset left right) = comparison operator left right
    factor (Between negated offset operand low high) = negated_if negated (range operand low high)
    factor (In negated offset values operand) = negated_if negated (membership operand (length values))
    factor (IsNull false offset operand) = 100000
    factor (IsNull true offset operand) = 900000
    factor (Not offset operand) = million - factor operand
    factor (And offset members) = all_factor million members
    factor (Or offset members) = any_factor 0 members
    factor _ = third

    -- that of those so far and of all members
    pub all_factor : (so_far : ℕ) → BoundExprs → ℕ
    all_factor f no_expr = f
    all_factor f (one_expr e es) = all_factor (f * factor e / million) es

    -- that of one of those so far or some member
    pub any_factor : (so_far : ℕ) → BoundExprs → ℕ
    any_factor f no_expr = f
    any_factor f (one_expr e es) = any_factor (f + factor e - f * factor e / million) es
