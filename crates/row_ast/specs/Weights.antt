-- The size of an expression: each part of it is lighter.
use Rattle.std.specs.Prelude.{ℕ, suc, ◌+◌}
use Rattle.row_ast.specs.Ast.{Expr, Column, Literal, CurrentUser, Negate, Arithmetic, Comparison, Between, In, IsNull, Not, And, Or, Cast, Case, CountStar, Call, Exprs, no_expr, one_expr, Arms, no_arm, one_arm, Otherwise, Nothing, Value}

abbrev mutual
  pub weight : Expr → ℕ
  weight (Column c) = 0
  weight (Literal d) = 0
  weight CurrentUser = 0
  weight (Negate offset e) = suc (weight e)
  weight (Arithmetic op offset e f) = suc (weight e + weight f)
  weight (Comparison op offset e f) = suc (weight e + weight f)
  weight (Between negated offset e low high) = suc (weight e + (weight low + weight high))
  weight (In negated offset values e) = suc (weight e)
  weight (IsNull negated offset e) = suc (weight e)
  weight (Not offset e) = suc (weight e)
  weight (And offset es) = suc (all_weight es)
  weight (Or offset es) = suc (all_weight es)
  weight (Cast offset to e) = suc (weight e)
  weight (Case offset as_ o) = suc (arms_weight as_ + otherwise_weight o)
  weight (CountStar offset) = 0
  weight (Call f offset e) = suc (weight e)

  pub all_weight : Exprs → ℕ
  all_weight no_expr = 0
  all_weight (one_expr e es) = suc (weight e + all_weight es)

  pub arms_weight : Arms → ℕ
  arms_weight no_arm = 0
  arms_weight (one_arm when result as_) = suc (weight when + (weight result + arms_weight as_))

  pub otherwise_weight : Otherwise → ℕ
  otherwise_weight Nothing = 0
  otherwise_weight (Value e) = weight e
