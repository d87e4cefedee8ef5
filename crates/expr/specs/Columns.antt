-- The columns that an expression names, in written order.
use Rattle.std.specs.Prelude.{List, [], ◌∷◌, ◌++◌}
use Rattle.expr.specs.declared.bound.ColumnId.{ColumnId}
use Rattle.expr.specs.Bound.{BoundExpr, Column, Literal, CurrentUser, Negate, Arithmetic, Comparison, Between, In, IsNull, Not, And, Or, Cast, Case, CountStar, Call, BoundExprs, no_expr, one_expr, BoundArms, no_arm, one_arm, BoundOtherwise, Nothing, Value}

abbrev mutual
  pub columns : BoundExpr → List ColumnId
  columns (Column id) = id ∷ []
  columns (Literal d) = []
  columns CurrentUser = []
  columns (Negate offset e) = columns e
  columns (Arithmetic op offset e f) = columns e ++ columns f
  columns (Comparison op offset e f) = columns e ++ columns f
  columns (Between negated offset e low high) = columns e ++ (columns low ++ columns high)
  columns (In negated offset values e) = columns e
  columns (IsNull negated offset e) = columns e
  columns (Not offset e) = columns e
  columns (And offset es) = all_columns es
  columns (Or offset es) = all_columns es
  columns (Cast offset to e) = columns e
  columns (Case offset as_ o) = arms_columns as_ ++ otherwise_columns o
  columns (CountStar offset) = []
  columns (Call f offset e) = columns e

  pub all_columns : BoundExprs → List ColumnId
  all_columns no_expr = []
  all_columns (one_expr e es) = columns e ++ all_columns es

  pub arms_columns : BoundArms → List ColumnId
  arms_columns no_arm = []
  arms_columns (one_arm when result as_) = columns when ++ (columns result ++ arms_columns as_)

  pub otherwise_columns : BoundOtherwise → List ColumnId
  otherwise_columns Nothing = []
  otherwise_columns (Value e) = columns e
