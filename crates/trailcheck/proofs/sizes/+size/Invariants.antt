use Rattle.std.proofs.Common.{◌≤◌, drop}
use Rattle.expr.specs.View.{bound_arms, bound_expr_of, bound_exprs}
use Rattle.expr.specs.Weights.{weight, all_weight, arms_weight}
use Rattle.trailcheck.proofs.sizes.+size.Given as goal

abbrev pub decreases-add_size : goal.decreases-add_size
decreases-add_size g l = weight (bound_expr_of l.expression.now)

abbrev pub decreases-add_sizes : goal.decreases-add_sizes
decreases-add_sizes g l = all_weight (bound_exprs l.members.now)

abbrev pub decreases-add_arms : goal.decreases-add_arms
decreases-add_arms g l = arms_weight (bound_arms l.arms.now)

-- what is left is no heavier than all
abbrev pub invariant-add_sizes-loop-member : goal.invariant-add_sizes-loop-member
invariant-add_sizes-loop-member g l = all_weight (bound_exprs (drop l.member-index l.members)) ≤ all_weight (bound_exprs l.members)

abbrev pub invariant-add_arms-loop-arm : goal.invariant-add_arms-loop-arm
invariant-add_arms-loop-arm g l = arms_weight (bound_arms (drop l.arm-index l.arms)) ≤ arms_weight (bound_arms l.arms)
