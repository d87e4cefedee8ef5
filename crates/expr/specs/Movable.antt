-- The expressions that never fault: those without arithmetic, casts and aggregates.
use Rattle.std.specs.Prelude.{Bool, true, false, ◌&&◌, Option, Some, None, if◌then◌else◌}
use Rattle.expr.specs.Bound.{BoundExpr, Column, Literal, CurrentUser, Negate, Arithmetic, Comparison, Between, In, IsNull, Not, And, Or, Cast, Case, CountStar, Call, BoundExprs, no_expr, one_expr, BoundArms, no_arm, one_arm, BoundOtherwise, Nothing, Value}

abbrev mutual
  pub movable : BoundExpr → Bool
  movable (Column id) = true
  movable (Literal d) = true
  movable CurrentUser = true
  movable (Negate offset e) = false
  movable (Arithmetic op offset e f) = false
  movable (Comparison op offset e f) = movable e && movable f
  movable (Between negated offset e low high) = movable e && (movable low && movable high)
  movable (In negated offset values e) = movable e
  movable (IsNull negated offset e) = movable e
  movable (Not offset e) = movable e
  movable (And offset es) = all_movable es
  movable (Or offset es) = all_movable es
  movable (Cast offset to e) = false
  movable (Case offset as_ o) = arms_movable as_ && otherwise_movable o
  movable (CountStar offset) = false
  movable (Call f offset e) = false

  pub all_movable : BoundExprs → Bool
  all_movable no_expr = true
  all_movable (one_expr e es) = movable e && all_movable es

  pub arms_movable : BoundArms → Bool
  arms_movable no_arm = true
  arms_movable (one_arm when result as_) = (movable when && movable result) && arms_movable as_

  pub otherwise_movable : BoundOtherwise → Bool
  otherwise_movable Nothing = true
  otherwise_movable (Value e) = movable e

abbrev pub if_movable : BoundExpr → Option BoundExpr
if_movable e = if movable e then Some e else None
