-- The filters of a plan against the planning list of its query.
use Rattle.std.specs.Prelude.{Bool, true, false, ◌&&◌, List, [], ◌∷◌, Result, Ok, Err}
use Rattle.row_ast.specs.Ast.{Expr}
use Rattle.expr.specs.Bound.{BoundExpr}
use Rattle.predicates.specs.Same.{same}
use Rattle.scope.specs.declared.error.BindError.{BindError}
use Rattle.scope.specs.Entry.{Entry}
use Rattle.scope.specs.Lookup.{everywhere}
use Rattle.scope.specs.BoundExprs.{bound_expr}

-- the expression is bound, and is the condition
abbrev pub is_condition : Result BoundExpr BindError → BoundExpr → Bool
is_condition (Ok e) c = same e c
is_condition (Err error) c = false

module _ (entries : List Entry) where
  -- the filter with its columns found is the condition
  abbrev pub is_filter : Expr → BoundExpr → Bool
  is_filter filter c = is_condition (bound_expr entries (everywhere entries) filter) c

  -- the filters with their columns found are the conditions, in the same order
  abbrev pub are_filters : List Expr → List BoundExpr → Bool
  are_filters [] [] = true
  are_filters (f ∷ fs) (c ∷ cs) = is_filter f c && are_filters fs cs
  are_filters _ _ = false
