-- The sort that is left in the end.
use Rattle.std.specs.Prelude.{Option, Some, None, if◌then◌else◌}
use Rattle.expr.specs.declared.bound.ColumnId.{ColumnId}
use Rattle.expr.specs.Codes.{Code, Empty, Steps}
use Rattle.code_costs.specs.Best.{Problem}
use Rattle.joins.specs.Orders.{Order, is_ordered_by, steps_order}
use Rattle.trailcheck.specs.Shapes.{inner_steps}

-- the column that is wanted in order, unless the combinations come so
abbrev pub unless_ordered : Order → (wanted : Option ColumnId) → Option ColumnId
unless_ordered order None = None
unless_ordered order (Some id) = if is_ordered_by order id then None else Some id

-- the column by which the combinations of a code are sorted in the end, if they are: a left join keeps their order
abbrev pub last_sort : Problem → Code → Option ColumnId
last_sort p Empty = None
last_sort p (Steps ss) = unless_ordered (steps_order p.setting.conditions (inner_steps p.setting ss)) p.wanted
