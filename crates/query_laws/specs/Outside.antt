-- The columns that an expression names outside aggregates.
use Rattle.std.specs.Prelude.{List, [], ◌∷◌, ◌++◌}
use Rattle.expr.specs.declared.bound.ColumnId.{ColumnId}
use Rattle.expr.specs.Bound.{BoundExpr, Column, Literal, CurrentUser, Negate, Arithmetic, Comparison, Between, In, IsNull, Not, And, Or, Cast, Case, CountStar, Call, BoundExprs, no_expr, one_expr, BoundArms, no_arm, one_arm, BoundOtherwise, Nothing, Value}

abbrev mutual
  pub outside_aggregates : BoundExpr → List ColumnId
  outside_aggregates (Column id) = id ∷ []
  outside_aggregates (Literal d) = []
  outside_aggregates CurrentUser = []
  outside_aggregates (Negate offset e) = outside_aggregates e
  outside_aggregates (Arithmetic op offset e f) = outside_aggregates e ++ outside_aggregates f
  outside_aggregates (Comparison op offset e f) = outside_aggregates e ++ outside_aggregates f
  outside_aggregates (Between negated offset e low high) = outside_aggregates e ++ (outside_aggregates low ++ outside_aggregates high)
  outside_aggregates (In negated offset values e) = outside_aggregates e
  outside_aggregates (IsNull negated offset e) = outside_aggregates e
  outside_aggregates (Not offset e) = outside_aggregates e
  outside_aggregates (And offset es) = all_outside es
  outside_aggregates (Or offset es) = all_outside es
  outside_aggregates (Cast offset to e) = outside_aggregates e
  outside_aggregates (Case offset as_ o) = arms_outside as_ ++ otherwise_outside o
  outside_aggregates (CountStar offset) = []
  outside_aggregates (Call f offset e) = []

  pub all_outside : BoundExprs → List ColumnId
  all_outside no_expr = []
  all_outside (one_expr e es) = outside_aggregates e ++ all_outside es

  pub arms_outside : BoundArms → List ColumnId
  arms_outside no_arm = []
  arms_outside (one_arm when result as_) = outside_aggregates when ++ (outside_aggregates result ++ arms_outside as_)

  pub otherwise_outside : BoundOtherwise → List ColumnId
  otherwise_outside Nothing = []
  otherwise_outside (Value e) = outside_aggregates e
