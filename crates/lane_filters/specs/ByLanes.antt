-- The conditions that are evaluated for all rows of a table at once, by the types of its columns.
use Rattle.std.specs.Prelude.{nat_lt, Bool, true, false, ◌&&◌, ◌||◌, List, length, get_or}
use Rattle.std.specs.List.{list_all}
use Rattle.value.specs.Datum.{Datum, null, int, text, bool}
use Rattle.value.specs.declared.operators.Comparison as operators
use Rattle.value.specs.declared.operators.Comparison.TheVariants.{Equal, NotEqual, Less, LessOrEqual, Greater, GreaterOrEqual}
use Rattle.value.specs.declared.types.ColType.{ColType}
use Rattle.value.specs.declared.types.ColType.TheVariants.{Bigint, Text, Boolean}
use Rattle.expr.specs.Bound.{BoundExpr, Column, Literal, CurrentUser, Negate, Arithmetic, Comparison, Between, In, IsNull, Not, And, Or, Cast, Case, CountStar, Call, BoundExprs, no_expr, one_expr}

abbrev pub is_bigint : ColType → Bool
is_bigint Bigint = true
is_bigint Text = false
is_bigint Boolean = false

-- a column of type bigint, or a bigint literal
abbrev pub is_number : List ColType → BoundExpr → Bool
is_number types (Column id) = nat_lt id.column (length types) && is_bigint (get_or types id.column Bigint)
is_number types (Literal (int n)) = true
is_number types _ = false

abbrev pub are_numbers : List ColType → BoundExpr → BoundExpr → Bool
are_numbers types e f = is_number types e && is_number types f

-- a column of the table
abbrev pub is_column : List ColType → BoundExpr → Bool
is_column types (Column id) = nat_lt id.column (length types)
is_column types _ = false

abbrev pub is_text : ColType → Bool
is_text Text = true
is_text Bigint = false
is_text Boolean = false

-- a column of type text
abbrev pub is_text_column : List ColType → BoundExpr → Bool
is_text_column types (Column id) = nat_lt id.column (length types) && is_text (get_or types id.column Bigint)
is_text_column types _ = false

-- a text that is the same on each row: a literal, or the role
abbrev pub is_one_text : BoundExpr → Bool
is_one_text (Literal (text t)) = true
is_one_text CurrentUser = true
is_one_text _ = false

-- a text column and one text, on either side
abbrev pub have_one_text : List ColType → BoundExpr → BoundExpr → Bool
have_one_text types e f = (is_text_column types e && is_one_text f) || (is_text_column types f && is_one_text e)

-- the equality of a text column with one text, or its negation
abbrev pub tests_text : List ColType → operators.Comparison → BoundExpr → BoundExpr → Bool
tests_text types Equal e f = have_one_text types e f
tests_text types NotEqual e f = have_one_text types e f
tests_text types Less e f = false
tests_text types LessOrEqual e f = false
tests_text types Greater e f = false
tests_text types GreaterOrEqual e f = false

abbrev pub is_text_value : Datum → Bool
is_text_value (text t) = true
is_text_value null = false
is_text_value (int n) = false
is_text_value (bool b) = false

abbrev pub are_texts : List Datum → Bool
are_texts values = list_all is_text_value values

abbrev mutual
  pub by_lanes : List ColType → BoundExpr → Bool
  by_lanes types (Comparison op offset e f) = are_numbers types e f || tests_text types op e f
  by_lanes types (Between negated offset e low high) = are_numbers types e low && are_numbers types e high
  by_lanes types (In negated offset values e) = is_text_column types e && are_texts values
  by_lanes types (IsNull negated offset e) = is_column types e
  by_lanes types (Not offset e) = by_lanes types e
  by_lanes types (And offset es) = all_by_lanes types es
  by_lanes types (Or offset es) = all_by_lanes types es
  by_lanes types (Column id) = false
  by_lanes types (Literal d) = false
  by_lanes types CurrentUser = false
  by_lanes types (Negate offset e) = false
  by_lanes types (Arithmetic op offset e f) = false
  by_lanes types (Cast offset to e) = false
  by_lanes types (Case offset as_ o) = false
  by_lanes types (CountStar offset) = false
  by_lanes types (Call f offset e) = false

  pub all_by_lanes : List ColType → BoundExprs → Bool
  all_by_lanes types no_expr = true
  all_by_lanes types (one_expr e es) = by_lanes types e && all_by_lanes types es
