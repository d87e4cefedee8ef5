-- Literals folded: each part without column, CURRENT_USER and aggregate is the literal of its value.
use Rattle.std.specs.Prelude.{Bool, true, false, ◌&&◌, [], Ok, Err, Option, Some, None, if◌then◌else◌}
use Rattle.value.specs.Datum.{Datum, null}
use Rattle.eval.specs.Meaning.{Cells, Outcome, meaning, no_aggregate}
use Rattle.expr.specs.Bound.{BoundExpr, Column, Literal, CurrentUser, Negate, Arithmetic, Comparison, Between, In, IsNull, Not, And, Or, Cast, Case, CountStar, Call, BoundExprs, no_expr, one_expr, BoundArms, no_arm, one_arm, BoundOtherwise, Nothing, Value}
use Rattle.predicates.specs.Rebuilt.{rebuilt}

abbrev pub is_literal : BoundExpr → Bool
is_literal (Literal d) = true
is_literal _ = false

abbrev pub are_literals : BoundExprs → Bool
are_literals no_expr = true
are_literals (one_expr e es) = is_literal e && are_literals es

abbrev pub are_literal_arms : BoundArms → Bool
are_literal_arms no_arm = true
are_literal_arms (one_arm when result as_) = (is_literal when && is_literal result) && are_literal_arms as_

abbrev pub is_literal_otherwise : BoundOtherwise → Bool
is_literal_otherwise Nothing = true
is_literal_otherwise (Value e) = is_literal e

-- all its operands are literals
abbrev pub of_literals : BoundExpr → Bool
of_literals (Column id) = false
of_literals (Literal d) = false
of_literals CurrentUser = false
of_literals (Negate offset e) = is_literal e
of_literals (Arithmetic op offset e f) = is_literal e && is_literal f
of_literals (Comparison op offset e f) = is_literal e && is_literal f
of_literals (Between negated offset e low high) = is_literal e && (is_literal low && is_literal high)
of_literals (In negated offset values e) = is_literal e
of_literals (IsNull negated offset e) = is_literal e
of_literals (Not offset e) = is_literal e
of_literals (And offset es) = are_literals es
of_literals (Or offset es) = are_literals es
of_literals (Cast offset to e) = is_literal e
of_literals (Case offset as_ o) = are_literal_arms as_ && is_literal_otherwise o
of_literals (CountStar offset) = false
of_literals (Call f offset e) = false

-- no columns, and no aggregates
abbrev pub nothing : Cells
nothing = record { column = λ id. null; aggregate = no_aggregate }

abbrev pub ok_value : Outcome → Option Datum
ok_value (Ok d) = Some d
ok_value (Err fault) = None

-- the value of an expression that needs no row and no role, if it does not fault
abbrev pub value_alone : BoundExpr → Option Datum
value_alone e = ok_value (meaning nothing [] e)

-- a part that faults stays as it is
abbrev pub literal_or : BoundExpr → Option Datum → BoundExpr
literal_or e (Some d) = Literal d
literal_or e None = e

abbrev pub folded_node : BoundExpr → BoundExpr
folded_node e = if of_literals e then literal_or e (value_alone e) else e

abbrev pub folded : BoundExpr → BoundExpr
folded = rebuilt folded_node
