use Rattle.std.proofs.Common.{◌≡◌, ◌≤◌, ◌++◌, drop, map}
use Rattle.expr.specs.View.{bound_arm_pair, bound_arms, bound_expr_of, bound_exprs}
use Rattle.expr.specs.Weights.{weight, all_weight, arms_weight}
use Rattle.expr.proofs.copies.+copy.Given as goal

abbrev pub decreases-copy_expr : goal.decreases-copy_expr
decreases-copy_expr g l = weight (bound_expr_of l.expression.now)

abbrev pub decreases-copy_members : goal.decreases-copy_members
decreases-copy_members g l = all_weight (bound_exprs l.members.now)

abbrev pub decreases-copy_arms : goal.decreases-copy_arms
decreases-copy_arms g l = arms_weight (bound_arms l.arms.now)

abbrev pub invariant-copy_members-loop-member : goal.invariant-copy_members-loop-member
invariant-copy_members-loop-member g l = record {
  rest : map bound_expr_of l.all ++ map bound_expr_of (drop l.member-index l.members) ≡ map bound_expr_of l.members;
  lighter : all_weight (bound_exprs (drop l.member-index l.members)) ≤ all_weight (bound_exprs l.members);
}

abbrev pub invariant-copy_arms-loop-next : goal.invariant-copy_arms-loop-next
invariant-copy_arms-loop-next g l = record {
  rest : map bound_arm_pair l.all ++ map bound_arm_pair (drop l.next-index l.arms) ≡ map bound_arm_pair l.arms;
  lighter : arms_weight (bound_arms (drop l.next-index l.arms)) ≤ arms_weight (bound_arms l.arms);
}
