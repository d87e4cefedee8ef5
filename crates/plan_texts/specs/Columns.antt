-- A test of the columns that an expression names.
use Rattle.std.specs.Prelude.{Bool, true, ◌&&◌}
use Rattle.row_ast.specs.Ast.{ColumnRef, Expr, Exprs, Arms, Otherwise, Column, Literal, CurrentUser, Negate, Arithmetic, Comparison, Between, In, IsNull, Not, And, Or, Cast, Case, CountStar, Call, no_expr, one_expr, no_arm, one_arm, Nothing, Value}

module _ (test : ColumnRef → Bool) where
  abbrev mutual
    -- each column of the expression passes the test
    pub all_columns : Expr → Bool
    all_columns (Column c) = test c
    all_columns (Literal d) = true
    all_columns CurrentUser = true
    all_columns (Negate at e) = all_columns e
    all_columns (Arithmetic op at e f) = all_columns e && all_columns f
    all_columns (Comparison op at e f) = all_columns e && all_columns f
    all_columns (Between negated at e low high) = all_columns e && (all_columns low && all_columns high)
    all_columns (In negated at values e) = all_columns e
    all_columns (IsNull negated at e) = all_columns e
    all_columns (Not at e) = all_columns e
    all_columns (And at es) = members_columns es
    all_columns (Or at es) = members_columns es
    all_columns (Cast at to e) = all_columns e
    all_columns (Case at as_ o) = arms_columns as_ && else_columns o
    all_columns (CountStar at) = true
    all_columns (Call f at e) = all_columns e

    -- each column of the members does
    pub members_columns : Exprs → Bool
    members_columns no_expr = true
    members_columns (one_expr e es) = all_columns e && members_columns es

    -- each column of the arms of a CASE does
    pub arms_columns : Arms → Bool
    arms_columns no_arm = true
    arms_columns (one_arm when result as_) = all_columns when && (all_columns result && arms_columns as_)

    -- each column of the value after ELSE does
    pub else_columns : Otherwise → Bool
    else_columns Nothing = true
    else_columns (Value e) = all_columns e
