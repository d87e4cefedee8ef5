-- Expressions without offsets: those of a plan's filters.
use Rattle.row_ast.specs.Ast.{Expr, Exprs, Arms, Otherwise, Column, Literal, CurrentUser, Negate, Arithmetic, Comparison, Between, In, IsNull, Not, And, Or, Cast, Case, CountStar, Call, no_expr, one_expr, no_arm, one_arm, Nothing, Value}

-- an expression whose operations and columns have the offset 0
abbrev mutual
  pub without_offsets : Expr → Expr
  without_offsets (Column c) = Column (record { table = c.table; name = c.name; offset = 0 })
  without_offsets (Literal d) = Literal d
  without_offsets CurrentUser = CurrentUser
  without_offsets (Negate at e) = Negate 0 (without_offsets e)
  without_offsets (Arithmetic op at e f) = Arithmetic op 0 (without_offsets e) (without_offsets f)
  without_offsets (Comparison op at e f) = Comparison op 0 (without_offsets e) (without_offsets f)
  without_offsets (Between negated at e low high) = Between negated 0 (without_offsets e) (without_offsets low) (without_offsets high)
  without_offsets (In negated at values e) = In negated 0 values (without_offsets e)
  without_offsets (IsNull negated at e) = IsNull negated 0 (without_offsets e)
  without_offsets (Not at e) = Not 0 (without_offsets e)
  without_offsets (And at es) = And 0 (all_without_offsets es)
  without_offsets (Or at es) = Or 0 (all_without_offsets es)
  without_offsets (Cast at to e) = Cast 0 to (without_offsets e)
  without_offsets (Case at as_ o) = Case 0 (arms_without_offsets as_) (else_without_offsets o)
  without_offsets (CountStar at) = CountStar 0
  without_offsets (Call f at e) = Call f 0 (without_offsets e)

  -- each of the members without offsets
  pub all_without_offsets : Exprs → Exprs
  all_without_offsets no_expr = no_expr
  all_without_offsets (one_expr e es) = one_expr (without_offsets e) (all_without_offsets es)

  -- the arms of a CASE without offsets
  pub arms_without_offsets : Arms → Arms
  arms_without_offsets no_arm = no_arm
  arms_without_offsets (one_arm when result as_) = one_arm (without_offsets when) (without_offsets result) (arms_without_offsets as_)

  -- the value after ELSE without offsets
  pub else_without_offsets : Otherwise → Otherwise
  else_without_offsets Nothing = Nothing
  else_without_offsets (Value e) = Value (without_offsets e)
