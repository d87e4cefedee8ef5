-- The conditions on the rows of an entry, some of which are evaluated for all rows at once.
use Rattle.std.specs.Prelude.{◌≡◌, ◌<◌, ℕ, Bool, true, false, not, ◌&&◌, List, ◌∷◌, filter, length, get_or, Option, Some, None, if◌then◌else◌}
use Rattle.std.specs.List.{list_all}
use Rattle.std.specs.Simd.Lanes.{zip2}
use Rattle.value.specs.Datum.{Row, row_at}
use Rattle.value.specs.Names.{Name}
use Rattle.value.specs.Orders.{is_true}
use Rattle.value.specs.Truths.{least}
use Rattle.value.specs.declared.order.Truth.{Truth}
use Rattle.value.specs.declared.order.Truth.TheVariants.{False}
use Rattle.value.specs.declared.types.ColType.{ColType}
use Rattle.expr.specs.Bound.{BoundExpr}
use Rattle.eval.specs.Meaning.{holds}
use Rattle.tuples.specs.Guards.{Guard, All, None as NoRow, Expr}
use Rattle.tuples.specs.Rows.{cells_of}
use Rattle.lane_filters.specs.ByLanes.{by_lanes}

-- the guard shows some row, if its condition is true there
abbrev pub shows_some : Guard → Bool
shows_some All = true
shows_some NoRow = false
shows_some (Expr e) = true

-- it shows the row of the number, where the rows that it shows are known; else it shows some row
abbrev pub may_show : Option (List Bool) → Guard → (number : ℕ) → Bool
may_show None guard number = shows_some guard
may_show (Some seen) guard number = get_or seen number false

-- its condition, if it has one, and then those of the query
abbrev pub all_conditions : Guard → List BoundExpr → List BoundExpr
all_conditions All conditions = conditions
all_conditions NoRow conditions = conditions
all_conditions (Expr e) conditions = e ∷ conditions

-- those that are tested: without that of the guard, where it is known which rows it shows
abbrev pub tested : (known : Bool) → Guard → List BoundExpr → List BoundExpr
tested known guard conditions = if known then conditions else all_conditions guard conditions

-- those that are not evaluated for all rows at once, by the types of the columns
abbrev pub row_by_row : List ColType → List BoundExpr → List BoundExpr
row_by_row types conditions = filter (λ e. not (by_lanes types e)) conditions

-- those that are evaluated on each row, where the whole table is read or a part of it
abbrev pub left_to_rows : (whole : Bool) → List ColType → List BoundExpr → List BoundExpr
left_to_rows whole types conditions = if whole then row_by_row types conditions else conditions

-- each condition is true on the row
abbrev pub all_hold : Name → Row → List BoundExpr → Bool
all_hold role row conditions = list_all (λ e. holds (cells_of row) role e) conditions

-- the conditions that were evaluated for all rows, if some were, are true on the row of the number
abbrev pub true_at : Option (List Truth) → (number : ℕ) → Bool
true_at None number = true
true_at (Some truths) number = is_true (get_or truths number False)

-- those of one condition more
abbrev pub with_truths : Option (List Truth) → List Truth → List Truth
with_truths None more = more
with_truths (Some truths) more = zip2 least truths more

-- on each row all conditions are true where those evaluated for all rows and all of the rest are
abbrev pub AreSplit : Name → List Row → List BoundExpr → Option (List Truth) → List BoundExpr → Type 0
AreSplit role rows conditions truths rest =
    (number : ℕ) → number < length rows → all_hold role (row_at rows number) conditions ≡ (true_at truths number && all_hold role (row_at rows number) rest)
