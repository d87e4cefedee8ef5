-- Comparisons of two columns.
use Rattle.std.specs.Prelude.{Option, Some, None}
use Rattle.value.specs.declared.operators.Comparison as operators
use Rattle.expr.specs.declared.bound.ColumnId.{ColumnId}
use Rattle.expr.specs.Bound.{BoundExpr, Column, Comparison}

-- the expression is a column
abbrev pub as_column : BoundExpr → Option ColumnId
as_column (Column id) = Some id
as_column _ = None

abbrev pub with_columns : operators.Comparison → Option ColumnId → Option ColumnId → Option (operators.Comparison × ColumnId × ColumnId)
with_columns operator (Some one) (Some other) = Some (operator, one, other)
with_columns operator _ _ = None

-- the comparison of two columns that an expression is, if it is one
abbrev pub column_comparison : BoundExpr → Option (operators.Comparison × ColumnId × ColumnId)
column_comparison (Comparison operator offset e f) = with_columns operator (as_column e) (as_column f)
column_comparison _ = None
