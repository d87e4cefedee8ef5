use Rattle.std.proofs.Common.{◌≡◌, ◌≤◌, drop}
use Rattle.expr.specs.View.{bound_arms, bound_expr_of, bound_exprs}
use Rattle.expr.specs.Movable.{all_movable, arms_movable}
use Rattle.expr.specs.Weights.{weight, all_weight, arms_weight}
use Rattle.expr.proofs.movable.+movable.Given as goal

abbrev pub decreases-is_movable : goal.decreases-is_movable
decreases-is_movable g l = weight (bound_expr_of l.expression.now)

abbrev pub decreases-are_movable : goal.decreases-are_movable
decreases-are_movable g l = all_weight (bound_exprs l.members.now)

abbrev pub decreases-are_arms_movable : goal.decreases-are_arms_movable
decreases-are_arms_movable g l = arms_weight (bound_arms l.arms.now)

abbrev pub invariant-are_movable-loop-member : goal.invariant-are_movable-loop-member
invariant-are_movable-loop-member g l = record {
  rest : all_movable (bound_exprs (drop l.member-index l.members)) ≡ all_movable (bound_exprs l.members);
  lighter : all_weight (bound_exprs (drop l.member-index l.members)) ≤ all_weight (bound_exprs l.members);
}

abbrev pub invariant-are_arms_movable-loop-arm : goal.invariant-are_arms_movable-loop-arm
invariant-are_arms_movable-loop-arm g l = record {
  rest : arms_movable (bound_arms (drop l.arm-index l.arms)) ≡ arms_movable (bound_arms l.arms);
  lighter : arms_weight (bound_arms (drop l.arm-index l.arms)) ≤ arms_weight (bound_arms l.arms);
}
