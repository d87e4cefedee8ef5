-- The column by which the rows of a query are wanted in order.
use Rattle.std.specs.Prelude.{List, [], ◌∷◌, Option, Some, None, slice_get, if◌then◌else◌}
use Rattle.expr.specs.declared.bound.ColumnId.{ColumnId}
use Rattle.expr.specs.declared.query.OutputKey.{OutputKey}
use Rattle.expr.specs.Bound.{BoundExpr, Column}
use Rattle.expr.specs.BoundQuery.{BoundItem, BoundQuery}

-- the column that an expression is, if it is one
abbrev pub plain_column : BoundExpr → Option ColumnId
plain_column (Column id) = Some id
plain_column _ = None

abbrev pub item_column : Option BoundItem → Option ColumnId
item_column None = None
item_column (Some i) = plain_column i.value

-- the column of a key's item, if the key ascends and the item is a column
abbrev pub key_column : List BoundItem → OutputKey → Option ColumnId
key_column items key = if key.descending then None else item_column (slice_get items key.index)

abbrev pub first_key_column : List BoundItem → List OutputKey → Option ColumnId
first_key_column items [] = None
first_key_column items (key ∷ keys) = key_column items key

abbrev pub first_column_or : Option ColumnId → List ColumnId → Option ColumnId
first_column_or other [] = other
first_column_or other (column ∷ columns) = Some column

-- the first column of GROUP BY; without GROUP BY that of the first key of ORDER BY
abbrev pub wanted_column : BoundQuery → Option ColumnId
wanted_column q = first_column_or (first_key_column q.items q.order_by) q.group_by
