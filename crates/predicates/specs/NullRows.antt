-- Conditions that are true on no null row.
use Rattle.std.specs.Prelude.{◌≡◌, ℕ, Bool, true, false, List, [], ◌++◌, Option, Some, None, option_to_list}
use Rattle.std.specs.List.{list_any}
use Rattle.value.specs.Datum.{null}
use Rattle.expr.specs.declared.bound.ColumnId.{ColumnId}
use Rattle.expr.specs.Bound.{BoundExpr, Column, Comparison, In, IsNull}
use Rattle.eval.specs.Meaning.{Cells, holds}

-- the column that the expression is, if it is one
abbrev pub column_alone : BoundExpr → Option ColumnId
column_alone (Column id) = Some id
column_alone _ = None

-- the columns that are a whole side of a comparison, or the operand of IS NOT NULL or IN
abbrev pub rejecting_columns : BoundExpr → List ColumnId
rejecting_columns (Comparison op offset e f) = option_to_list (column_alone e) ++ option_to_list (column_alone f)
rejecting_columns (IsNull true offset e) = option_to_list (column_alone e)
rejecting_columns (In false offset values e) = option_to_list (column_alone e)
rejecting_columns _ = []

-- one of them is a column of the entries that are inside
abbrev pub rejects_null_rows : (inside : ℕ → Bool) → BoundExpr → Bool
rejects_null_rows inside e = list_any (λ id. inside id.entry) (rejecting_columns e)

-- such a condition is not true where the columns of these entries are null
abbrev pub NullRowsAreRejected : Type 0
NullRowsAreRejected =
    (inside : ℕ → Bool) (e : BoundExpr) (cells : Cells) (role : List ℕ) → rejects_null_rows inside e ≡ true
    → ((id : ColumnId) → inside id.entry ≡ true → cells.column id ≡ null) → holds cells role e ≡ false
