-- The expressions whose value takes no memory: those without a CAST to text.
use Rattle.std.specs.Prelude.{Bool, true, false, ◌&&◌}
use Rattle.value.specs.declared.types.ColType.{ColType}
use Rattle.value.specs.declared.types.ColType.TheVariants.{Bigint, Text, Boolean}
use Rattle.expr.specs.Bound.{BoundExpr, Column, Literal, CurrentUser, Negate, Arithmetic, Comparison, Between, In, IsNull, Not, And, Or, Cast, Case, CountStar, Call, BoundExprs, no_expr, one_expr, BoundArms, no_arm, one_arm, BoundOtherwise, Nothing, Value}

abbrev pub is_no_text : ColType → Bool
is_no_text Bigint = true
is_no_text Text = false
is_no_text Boolean = true

abbrev mutual
  pub takes_no_memory : BoundExpr → Bool
  takes_no_memory (Column id) = true
  takes_no_memory (Literal d) = true
  takes_no_memory CurrentUser = true
  takes_no_memory (Negate offset e) = takes_no_memory e
  takes_no_memory (Arithmetic op offset e f) = takes_no_memory e && takes_no_memory f
  takes_no_memory (Comparison op offset e f) = takes_no_memory e && takes_no_memory f
  takes_no_memory (Between negated offset e low high) = takes_no_memory e && (takes_no_memory low && takes_no_memory high)
  takes_no_memory (In negated offset values e) = takes_no_memory e
  takes_no_memory (IsNull negated offset e) = takes_no_memory e
  takes_no_memory (Not offset e) = takes_no_memory e
  takes_no_memory (And offset es) = all_take_no_memory es
  takes_no_memory (Or offset es) = all_take_no_memory es
  takes_no_memory (Cast offset to e) = is_no_text to && takes_no_memory e
  takes_no_memory (Case offset as_ o) = arms_take_no_memory as_ && otherwise_takes_no_memory o
  -- an aggregate's value is there, and its argument is not evaluated again
  takes_no_memory (CountStar offset) = true
  takes_no_memory (Call f offset e) = true

  pub all_take_no_memory : BoundExprs → Bool
  all_take_no_memory no_expr = true
  all_take_no_memory (one_expr e es) = takes_no_memory e && all_take_no_memory es

  pub arms_take_no_memory : BoundArms → Bool
  arms_take_no_memory no_arm = true
  arms_take_no_memory (one_arm when result as_) = (takes_no_memory when && takes_no_memory result) && arms_take_no_memory as_

  pub otherwise_takes_no_memory : BoundOtherwise → Bool
  otherwise_takes_no_memory Nothing = true
  otherwise_takes_no_memory (Value e) = takes_no_memory e
