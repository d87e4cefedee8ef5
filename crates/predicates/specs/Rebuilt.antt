-- An expression made anew from its operands upward: a rule gives the node in place of each.
use Rattle.expr.specs.Bound.{BoundExpr, Column, Literal, CurrentUser, Negate, Arithmetic, Comparison, Between, In, IsNull, Not, And, Or, Cast, Case, CountStar, Call, BoundExprs, no_expr, one_expr, BoundArms, no_arm, one_arm, BoundOtherwise, Nothing, Value}

module _ (at : BoundExpr → BoundExpr) where
  abbrev mutual
    pub rebuilt : BoundExpr → BoundExpr
    rebuilt (Column id) = at (Column id)
    rebuilt (Literal d) = at (Literal d)
    rebuilt CurrentUser = at CurrentUser
    rebuilt (Negate offset e) = at (Negate offset (rebuilt e))
    rebuilt (Arithmetic op offset e f) = at (Arithmetic op offset (rebuilt e) (rebuilt f))
    rebuilt (Comparison op offset e f) = at (Comparison op offset (rebuilt e) (rebuilt f))
    rebuilt (Between negated offset e low high) = at (Between negated offset (rebuilt e) (rebuilt low) (rebuilt high))
    rebuilt (In negated offset values e) = at (In negated offset values (rebuilt e))
    rebuilt (IsNull negated offset e) = at (IsNull negated offset (rebuilt e))
    rebuilt (Not offset e) = at (Not offset (rebuilt e))
    rebuilt (And offset es) = at (And offset (all_rebuilt es))
    rebuilt (Or offset es) = at (Or offset (all_rebuilt es))
    rebuilt (Cast offset to e) = at (Cast offset to (rebuilt e))
    rebuilt (Case offset as_ o) = at (Case offset (arms_rebuilt as_) (otherwise_rebuilt o))
    rebuilt (CountStar offset) = at (CountStar offset)
    rebuilt (Call f offset e) = at (Call f offset (rebuilt e))

    pub all_rebuilt : BoundExprs → BoundExprs
    all_rebuilt no_expr = no_expr
    all_rebuilt (one_expr e es) = one_expr (rebuilt e) (all_rebuilt es)

    pub arms_rebuilt : BoundArms → BoundArms
    arms_rebuilt no_arm = no_arm
    arms_rebuilt (one_arm when result as_) = one_arm (rebuilt when) (rebuilt result) (arms_rebuilt as_)

    pub otherwise_rebuilt : BoundOtherwise → BoundOtherwise
    otherwise_rebuilt Nothing = Nothing
    otherwise_rebuilt (Value e) = Value (rebuilt e)
