-- Equalities of columns and of a column and a value, and conditions that are never true.
use Rattle.std.specs.Prelude.{Bool, true, false, Option, Some, None, if◌then◌else◌}
use Rattle.value.specs.Datum.{Datum, null, int, text, bool}
use Rattle.value.specs.declared.operators.Comparison.TheVariants.{Equal}
use Rattle.expr.specs.declared.bound.ColumnId.{ColumnId}
use Rattle.expr.specs.Bound.{is_column, BoundExpr, Column, Literal, Comparison, IsNull}

abbrev pub columns_equal : ColumnId → ColumnId → BoundExpr
columns_equal a b = Comparison Equal 0 (Column a) (Column b)

abbrev pub column_equals : ColumnId → Datum → BoundExpr
column_equals a d = Comparison Equal 0 (Column a) (Literal d)

-- the two columns of an equality of columns
abbrev pub column_sides : BoundExpr → Option (ColumnId × ColumnId)
column_sides (Comparison Equal offset (Column a) (Column b)) = Some (a, b)
column_sides _ = None

abbrev pub unless_null : ColumnId → Datum → Option (ColumnId × Datum)
unless_null a null = None
unless_null a (int n) = Some (a, int n)
unless_null a (text t) = Some (a, text t)
unless_null a (bool b) = Some (a, bool b)

-- the column and the value of an equality of a column and a literal that is not null
abbrev pub literal_side : BoundExpr → Option (ColumnId × Datum)
literal_side (Comparison Equal offset (Column a) (Literal d)) = unless_null a d
literal_side (Comparison Equal offset (Literal d) (Column a)) = unless_null a d
literal_side _ = None

-- the literal FALSE or NULL
abbrev pub is_never_true : BoundExpr → Bool
is_never_true (Literal null) = true
is_never_true (Literal (bool false)) = true
is_never_true _ = false

-- x IS NOT NULL for x = x
abbrev pub not_null_of : Option (ColumnId × ColumnId) → Option BoundExpr
not_null_of (Some (a, b)) = if is_column a b then Some (IsNull true 0 (Column a)) else None
not_null_of None = None

abbrev pub not_null_form : BoundExpr → Option BoundExpr
not_null_form e = not_null_of (column_sides e)
