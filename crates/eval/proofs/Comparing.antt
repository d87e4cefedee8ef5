-- The value of a comparison of two columns.
use Rattle.std.proofs.Common.{◌≡◌, List, ℕ, Option, Some, None, refl, ap, ap₂, ◌∙◌}
use Rattle.value.specs.Orders.{is_true}
use Rattle.value.proofs.Conditions.{truth_back}
use Rattle.value.specs.declared.operators.Comparison as operators
use Rattle.expr.specs.declared.bound.ColumnId.{ColumnId}
use Rattle.expr.specs.Bound.{BoundExpr, Column, Comparison}
use Rattle.eval.specs.Comparing.{as_column, column_comparison, with_columns}
use Rattle.eval.specs.Meaning.{Cells, comparison, holds, is_true_outcome, meaning}
use Rattle.eval.specs.Operators.{comparison_of}

module _ (cells : Cells) (role : List ℕ) where
  abbrev IsColumn : BoundExpr → Option ColumnId → Type 0
  IsColumn e None = Unit {0}
  IsColumn e (Some id) = e ≡ Column id

  is_column : (e : BoundExpr) → IsColumn e (as_column e)
  is_column (Column id) = refl
  is_column _ = tt

  abbrev IsCompared : BoundExpr → Option (operators.Comparison × ColumnId × ColumnId) → Type 0
  IsCompared e None = Unit {0}
  IsCompared e (Some c) = holds cells role e ≡ is_true (comparison_of c.0 (cells.column c.1) (cells.column c.2))

  compared : (operator : operators.Comparison) (offset : ℕ) (e f : BoundExpr) (o p : Option ColumnId) → IsColumn e o → IsColumn f p → IsCompared (Comparison operator offset e f) (with_columns operator o p)
  compared operator offset e f None None h k = tt
  compared operator offset e f None (Some other) h k = tt
  compared operator offset e f (Some one) None h k = tt
  compared operator offset e f (Some one) (Some other) h k =
      ap₂ (λ (x y : BoundExpr). is_true_outcome (comparison operator (meaning cells role x) (meaning cells role y))) h k
      ∙ ap is_true (truth_back (comparison_of operator (cells.column one) (cells.column other)))

  all_compared : (e : BoundExpr) → IsCompared e (column_comparison e)
  all_compared (Comparison operator offset e f) = compared operator offset e f (as_column e) (as_column f) (is_column e) (is_column f)
  all_compared _ = tt

  -- the comparison that an expression is has its value
  pub compared_is : (e : BoundExpr) (o : Option (operators.Comparison × ColumnId × ColumnId)) → o ≡ column_comparison e → IsCompared e o
  compared_is e o h = rw h (all_compared e)
