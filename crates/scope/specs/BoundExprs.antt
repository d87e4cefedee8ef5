-- Expressions with each column found and all else kept, or the first name that does not resolve.
use Rattle.std.specs.Prelude.{ℕ, List, [], Result, Ok}
use Rattle.row_ast.specs.Ast as ast
use Rattle.expr.specs.Bound as bound
use Rattle.expr.specs.Bound.{BoundExpr, BoundOtherwise, bound_exprs_of, bound_arms_of}
use Rattle.scope.specs.declared.error.BindError.{BindError}
use Rattle.scope.specs.declared.lookup.Scope.{Scope}
use Rattle.scope.specs.Entry.{Entry}
use Rattle.memory.specs.Results.{and_then, first_then}
use Rattle.scope.specs.Lookup.{find_column}

abbrev pub conjunction : ℕ → Result (List BoundExpr) BindError → Result BoundExpr BindError
conjunction offset r = and_then r (λ es. Ok (bound.And offset (bound_exprs_of es)))

abbrev pub disjunction : ℕ → Result (List BoundExpr) BindError → Result BoundExpr BindError
disjunction offset r = and_then r (λ es. Ok (bound.Or offset (bound_exprs_of es)))

abbrev pub as_otherwise : Result BoundExpr BindError → Result BoundOtherwise BindError
as_otherwise r = and_then r (λ e. Ok (bound.Value e))

abbrev pub choice : ℕ → Result (List (BoundExpr × BoundExpr)) BindError → Result BoundOtherwise BindError → Result BoundExpr BindError
choice offset r o = and_then r (λ as_. and_then o (λ e. Ok (bound.Case offset (bound_arms_of as_) e)))

abbrev pub pair : Result BoundExpr BindError → Result BoundExpr BindError → Result (BoundExpr × BoundExpr) BindError
pair r s = and_then r (λ when. and_then s (λ result. Ok (when, result)))

module _ (entries : List Entry) (scope : Scope) where
  abbrev mutual
    pub bound_expr : ast.Expr → Result BoundExpr BindError
    bound_expr (ast.Column c) = and_then (find_column entries scope c) (λ id. Ok (bound.Column id))
    bound_expr (ast.Literal d) = Ok (bound.Literal d)
    bound_expr ast.CurrentUser = Ok bound.CurrentUser
    bound_expr (ast.Negate offset e) = and_then (bound_expr e) (λ x. Ok (bound.Negate offset x))
    bound_expr (ast.Arithmetic op offset e f) = and_then (bound_expr e) (λ x. and_then (bound_expr f) (λ y. Ok (bound.Arithmetic op offset x y)))
    bound_expr (ast.Comparison op offset e f) = and_then (bound_expr e) (λ x. and_then (bound_expr f) (λ y. Ok (bound.Comparison op offset x y)))
    bound_expr (ast.Between negated offset e low high) = and_then (bound_expr e) (λ x. and_then (bound_expr low) (λ y. and_then (bound_expr high) (λ z. Ok (bound.Between negated offset x y z))))
    bound_expr (ast.In negated offset values e) = and_then (bound_expr e) (λ x. Ok (bound.In negated offset values x))
    bound_expr (ast.IsNull negated offset e) = and_then (bound_expr e) (λ x. Ok (bound.IsNull negated offset x))
    bound_expr (ast.Not offset e) = and_then (bound_expr e) (λ x. Ok (bound.Not offset x))
    bound_expr (ast.And offset es) = conjunction offset (bound_members es)
    bound_expr (ast.Or offset es) = disjunction offset (bound_members es)
    bound_expr (ast.Cast offset to e) = and_then (bound_expr e) (λ x. Ok (bound.Cast offset to x))
    bound_expr (ast.Case offset as_ o) = choice offset (bound_arms as_) (bound_otherwise o)
    bound_expr (ast.CountStar offset) = Ok (bound.CountStar offset)
    bound_expr (ast.Call f offset e) = and_then (bound_expr e) (λ x. Ok (bound.Call f offset x))

    -- each of them, or the first error
    pub bound_members : ast.Exprs → Result (List BoundExpr) BindError
    bound_members ast.no_expr = Ok []
    bound_members (ast.one_expr e es) = first_then (bound_expr e) (bound_members es)

    pub bound_arms : ast.Arms → Result (List (BoundExpr × BoundExpr)) BindError
    bound_arms ast.no_arm = Ok []
    bound_arms (ast.one_arm when result as_) = first_then (pair (bound_expr when) (bound_expr result)) (bound_arms as_)

    pub bound_otherwise : ast.Otherwise → Result BoundOtherwise BindError
    bound_otherwise ast.Nothing = Ok bound.Nothing
    bound_otherwise (ast.Value e) = as_otherwise (bound_expr e)
