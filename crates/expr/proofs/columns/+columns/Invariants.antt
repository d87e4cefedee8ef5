use Rattle.std.proofs.Common.{◌≡◌, ◌≤◌, ◌++◌, drop}
use Rattle.expr.specs.View.{bound_arms, bound_expr_of, bound_exprs}
use Rattle.expr.specs.Columns.{all_columns, arms_columns}
use Rattle.expr.specs.Weights.{weight, all_weight, arms_weight}
use Rattle.expr.proofs.columns.+columns.Given as goal

abbrev pub decreases-push_columns : goal.decreases-push_columns
decreases-push_columns g l = weight (bound_expr_of l.expression.now)

abbrev pub decreases-push_all_columns : goal.decreases-push_all_columns
decreases-push_all_columns g l = all_weight (bound_exprs l.members.now)

abbrev pub decreases-push_arms_columns : goal.decreases-push_arms_columns
decreases-push_arms_columns g l = arms_weight (bound_arms l.arms.now)

abbrev pub invariant-push_all_columns-loop-member : goal.invariant-push_all_columns-loop-member
invariant-push_all_columns-loop-member g l = record {
  rest : l.known ++ all_columns (bound_exprs (drop l.member-index l.members)) ≡ l.fn.known ++ all_columns (bound_exprs l.members);
  lighter : all_weight (bound_exprs (drop l.member-index l.members)) ≤ all_weight (bound_exprs l.members);
}

abbrev pub invariant-push_arms_columns-loop-arm : goal.invariant-push_arms_columns-loop-arm
invariant-push_arms_columns-loop-arm g l = record {
  rest : l.known ++ arms_columns (bound_arms (drop l.arm-index l.arms)) ≡ l.fn.known ++ arms_columns (bound_arms l.arms);
  lighter : arms_weight (bound_arms (drop l.arm-index l.arms)) ≤ arms_weight (bound_arms l.arms);
}
