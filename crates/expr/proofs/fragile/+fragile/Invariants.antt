use Rattle.std.proofs.Common.{◌≡◌, ◌≤◌, drop}
use Rattle.expr.specs.View.{bound_arms, bound_expr_of, bound_exprs}
use Rattle.expr.specs.Fragile.{fragile_members, fragile_arms}
use Rattle.expr.specs.Offsets.{least_of}
use Rattle.expr.specs.Weights.{weight, all_weight, arms_weight}
use Rattle.expr.proofs.fragile.+fragile.Given as goal

abbrev pub decreases-first_fragile : goal.decreases-first_fragile
decreases-first_fragile g l = weight (bound_expr_of l.expression.now)

abbrev pub decreases-fragile_members : goal.decreases-fragile_members
decreases-fragile_members g l = all_weight (bound_exprs l.members.now)

abbrev pub decreases-fragile_arms : goal.decreases-fragile_arms
decreases-fragile_arms g l = arms_weight (bound_arms l.arms.now)

abbrev pub invariant-fragile_members-loop-member : goal.invariant-fragile_members-loop-member
invariant-fragile_members-loop-member g l = record {
  rest : least_of l.known (fragile_members (bound_exprs (drop l.member-index l.members))) ≡ fragile_members (bound_exprs l.members);
  lighter : all_weight (bound_exprs (drop l.member-index l.members)) ≤ all_weight (bound_exprs l.members);
}

abbrev pub invariant-fragile_arms-loop-arm : goal.invariant-fragile_arms-loop-arm
invariant-fragile_arms-loop-arm g l = record {
  rest : least_of l.known (fragile_arms (bound_arms (drop l.arm-index l.arms))) ≡ fragile_arms (bound_arms l.arms);
  lighter : arms_weight (bound_arms (drop l.arm-index l.arms)) ≤ arms_weight (bound_arms l.arms);
}
