-- The columns that a query names.
use Rattle.std.specs.Prelude.{List, [], ◌++◌, Option, Some, None}
use Rattle.std.specs.List.{flat_map}
use Rattle.expr.specs.declared.bound.ColumnId.{ColumnId}
use Rattle.expr.specs.Bound.{BoundExpr}
use Rattle.expr.specs.Columns.{columns}
use Rattle.expr.specs.BoundQuery.{BoundItem, BoundQuery}

abbrev pub item_columns : BoundItem → List ColumnId
item_columns i = columns i.value

abbrev pub condition_columns : Option BoundExpr → List ColumnId
condition_columns None = []
condition_columns (Some e) = columns e

-- those of its items, of each ON, of WHERE, of GROUP BY and of HAVING
abbrev pub named_columns : BoundQuery → List ColumnId
named_columns q = flat_map item_columns q.items ++ ((flat_map condition_columns q.ons ++ condition_columns q.filter) ++ (q.group_by ++ condition_columns q.having))
