-- Expressions whose columns are found, as spec data: those of the text in all else.
use Rattle.std.specs.Prelude.{ℕ, nat_eq, Bool, ◌&&◌, List, [], ◌∷◌}
use Rattle.value.specs.Datum.{Datum}
use Rattle.value.specs.declared.types.ColType.{ColType}
use Rattle.value.specs.declared.operators.Arithmetic as value
use Rattle.value.specs.declared.operators.Comparison as value'
use Rattle.value.specs.declared.operators.Aggregate.{Aggregate}
use Rattle.expr.specs.declared.bound.ColumnId.{ColumnId}

abbrev pub is_column : ColumnId → ColumnId → Bool
is_column id other = nat_eq id.entry other.entry && nat_eq id.column other.column

mutual
  pub data BoundExpr : Type 0 where
    Column : ColumnId → BoundExpr
    Literal : Datum → BoundExpr
    CurrentUser : BoundExpr
    Negate : (offset : ℕ) → (operand : BoundExpr) → BoundExpr
    Arithmetic : (operator : value.Arithmetic) → (offset : ℕ) → (left right : BoundExpr) → BoundExpr
    Comparison : (operator : value'.Comparison) → (offset : ℕ) → (left right : BoundExpr) → BoundExpr
    Between : (negated : Bool) → (offset : ℕ) → (operand low high : BoundExpr) → BoundExpr
    In : (negated : Bool) → (offset : ℕ) → (values : List Datum) → (operand : BoundExpr) → BoundExpr
    IsNull : (negated : Bool) → (offset : ℕ) → (operand : BoundExpr) → BoundExpr
    Not : (offset : ℕ) → (operand : BoundExpr) → BoundExpr
    And : (offset : ℕ) → (members : BoundExprs) → BoundExpr
    Or : (offset : ℕ) → (members : BoundExprs) → BoundExpr
    Cast : (offset : ℕ) → (to : ColType) → (operand : BoundExpr) → BoundExpr
    Case : (offset : ℕ) → (arms : BoundArms) → (otherwise : BoundOtherwise) → BoundExpr
    CountStar : (offset : ℕ) → BoundExpr
    Call : (aggregate : Aggregate) → (offset : ℕ) → (argument : BoundExpr) → BoundExpr

  pub data BoundExprs : Type 0 where
    no_expr : BoundExprs
    one_expr : BoundExpr → BoundExprs → BoundExprs

  -- WHEN when THEN result
  pub data BoundArms : Type 0 where
    no_arm : BoundArms
    one_arm : (when result : BoundExpr) → BoundArms → BoundArms

  -- ELSE, if it is written
  pub data BoundOtherwise : Type 0 where
    Nothing : BoundOtherwise
    Value : BoundExpr → BoundOtherwise

abbrev pub bound_exprs_of : List BoundExpr → BoundExprs
bound_exprs_of [] = no_expr
bound_exprs_of (e ∷ es) = one_expr e (bound_exprs_of es)

abbrev pub bound_arms_of : List (BoundExpr × BoundExpr) → BoundArms
bound_arms_of [] = no_arm
bound_arms_of (a ∷ as_) = one_arm a.0 a.1 (bound_arms_of as_)
