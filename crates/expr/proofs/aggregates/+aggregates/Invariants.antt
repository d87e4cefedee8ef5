use Rattle.std.proofs.Common.{◌≡◌, ◌≤◌, ◌++◌, drop}
use Rattle.expr.specs.View.{aggregate_calls_of, bound_arms, bound_expr_of, bound_exprs}
use Rattle.expr.specs.Aggregates.{all_aggregates, arms_aggregates}
use Rattle.expr.specs.Weights.{weight, all_weight, arms_weight}
use Rattle.expr.proofs.aggregates.+aggregates.Given as goal

abbrev pub decreases-push_aggregates : goal.decreases-push_aggregates
decreases-push_aggregates g l = weight (bound_expr_of l.expression.now)

abbrev pub decreases-push_all_aggregates : goal.decreases-push_all_aggregates
decreases-push_all_aggregates g l = all_weight (bound_exprs l.members.now)

abbrev pub decreases-push_arms_aggregates : goal.decreases-push_arms_aggregates
decreases-push_arms_aggregates g l = arms_weight (bound_arms l.arms.now)

abbrev pub invariant-push_all_aggregates-loop-member : goal.invariant-push_all_aggregates-loop-member
invariant-push_all_aggregates-loop-member g l = record {
  rest : aggregate_calls_of l.known ++ all_aggregates (bound_exprs (drop l.member-index l.members)) ≡ aggregate_calls_of l.fn.known ++ all_aggregates (bound_exprs l.members);
  lighter : all_weight (bound_exprs (drop l.member-index l.members)) ≤ all_weight (bound_exprs l.members);
}

abbrev pub invariant-push_arms_aggregates-loop-arm : goal.invariant-push_arms_aggregates-loop-arm
invariant-push_arms_aggregates-loop-arm g l = record {
  rest : aggregate_calls_of l.known ++ arms_aggregates (bound_arms (drop l.arm-index l.arms)) ≡ aggregate_calls_of l.fn.known ++ arms_aggregates (bound_arms l.arms);
  lighter : arms_weight (bound_arms (drop l.arm-index l.arms)) ≤ arms_weight (bound_arms l.arms);
}
