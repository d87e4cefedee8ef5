-- What may fault in an expression: its arithmetic, its casts and its aggregates.
use Rattle.std.specs.Prelude.{ℕ, Option, Some, None}
use Rattle.expr.specs.Bound.{BoundExpr, Column, Literal, CurrentUser, Negate, Arithmetic, Comparison, Between, In, IsNull, Not, And, Or, Cast, Case, CountStar, Call, BoundExprs, no_expr, one_expr, BoundArms, no_arm, one_arm, BoundOtherwise, Nothing, Value}
use Rattle.expr.specs.Offsets.{least_of}

abbrev mutual
  -- the least offset of an arithmetic sign, a CAST or an aggregate in it, if there is one
  pub first_fragile : BoundExpr → Option ℕ
  first_fragile (Column id) = None
  first_fragile (Literal d) = None
  first_fragile CurrentUser = None
  first_fragile (Negate offset e) = least_of (Some offset) (first_fragile e)
  first_fragile (Arithmetic op offset e f) = least_of (Some offset) (least_of (first_fragile e) (first_fragile f))
  first_fragile (Comparison op offset e f) = least_of (first_fragile e) (first_fragile f)
  first_fragile (Between negated offset e low high) = least_of (first_fragile e) (least_of (first_fragile low) (first_fragile high))
  first_fragile (In negated offset values e) = first_fragile e
  first_fragile (IsNull negated offset e) = first_fragile e
  first_fragile (Not offset e) = first_fragile e
  first_fragile (And offset es) = fragile_members es
  first_fragile (Or offset es) = fragile_members es
  first_fragile (Cast offset to e) = least_of (Some offset) (first_fragile e)
  first_fragile (Case offset as_ o) = least_of (fragile_arms as_) (fragile_otherwise o)
  first_fragile (CountStar offset) = Some offset
  first_fragile (Call f offset e) = least_of (Some offset) (first_fragile e)

  pub fragile_members : BoundExprs → Option ℕ
  fragile_members no_expr = None
  fragile_members (one_expr e es) = least_of (first_fragile e) (fragile_members es)

  pub fragile_arms : BoundArms → Option ℕ
  fragile_arms no_arm = None
  fragile_arms (one_arm when result as_) = least_of (least_of (first_fragile when) (first_fragile result)) (fragile_arms as_)

  pub fragile_otherwise : BoundOtherwise → Option ℕ
  fragile_otherwise Nothing = None
  fragile_otherwise (Value e) = first_fragile e
