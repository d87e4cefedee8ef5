-- The views of bound trees with lists of children.
use Rattle.std.proofs.Common.{◌≡◌, ◌∙◌, ap, refl, Vec}
use Rattle.expr.specs.Bound as bound
use Rattle.expr.specs.View.{bound_expr_of, row_exprs, row_arms, bound_exprs, bound_arms}
use Rattle.expr.specs.declared.bound.BoundExpr.TheBlock.{hidden-the_row-BoundExpr-0, hidden-the_row-BoundArm-1}
use Rattle.expr.specs.declared.bound.BoundArm.{BoundArm}
use Rattle.expr.specs.declared.bound.BoundExpr.{BoundExpr, Row_of-BoundExpr, end_of-BoundExpr, more_of-BoundExpr, Row_of-BoundArm, end_of-BoundArm, more_of-BoundArm, items-the_row-BoundExpr, items-the_row-BoundArm, items_hidden-the_row-BoundExpr-0, items_hidden-the_row-BoundArm-1}

exprs_row : {A : Type 0} {n : _} (row : Row_of-BoundExpr A n) → row_exprs row ≡ bound_exprs (items-the_row-BoundExpr A n row)
exprs_row end_of-BoundExpr = refl
exprs_row (more_of-BoundExpr e rest) = ap (bound.one_expr (bound_expr_of e)) (exprs_row rest)

arms_row : {A : Type 0} {n : _} (row : Row_of-BoundArm A n) → row_arms row ≡ bound_arms (items-the_row-BoundArm A n row)
arms_row end_of-BoundArm = refl
arms_row (more_of-BoundArm when result rest) = ap (bound.one_arm (bound_expr_of when) (bound_expr_of result)) (arms_row rest)

-- the same of the children in a `Vec`
pub bound_exprs_hidden : {A : Type 0} (v : Vec (BoundExpr A) A) → row_exprs (hidden-the_row-BoundExpr-0 A v) ≡ bound_exprs v.items
bound_exprs_hidden {A} v = exprs_row (hidden-the_row-BoundExpr-0 A v) ∙ ap bound_exprs (items_hidden-the_row-BoundExpr-0 A v)

pub bound_arms_hidden : {A : Type 0} (v : Vec (BoundArm A) A) → row_arms (hidden-the_row-BoundArm-1 A v) ≡ bound_arms v.items
bound_arms_hidden {A} v = arms_row (hidden-the_row-BoundArm-1 A v) ∙ ap bound_arms (items_hidden-the_row-BoundArm-1 A v)
