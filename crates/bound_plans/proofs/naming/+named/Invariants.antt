use Rattle.std.proofs.Common.{◌≡◌, ◌≤◌, ◌++◌, drop, map}
use Rattle.row_ast.specs.View.{arm_pair, expr_of}
use Rattle.expr.specs.View.{bound_arm_pair, bound_arms, bound_expr_of, bound_exprs}
use Rattle.expr.specs.Weights.{weight, all_weight, arms_weight}
use Rattle.scope.specs.View.{entries_of}
use Rattle.bound_plans.specs.Named.{named}
use Rattle.bound_plans.proofs.Made.{named_arm}
use Rattle.bound_plans.proofs.naming.+named.Given as goal

abbrev pub decreases-named : goal.decreases-named
decreases-named g l = weight (bound_expr_of l.condition.now)

abbrev pub decreases-named_members : goal.decreases-named_members
decreases-named_members g l = all_weight (bound_exprs l.members.now)

abbrev pub decreases-named_arms : goal.decreases-named_arms
decreases-named_arms g l = arms_weight (bound_arms l.arms.now)

abbrev pub invariant-named_members-loop-member : goal.invariant-named_members-loop-member
invariant-named_members-loop-member g l = record {
  rest : map expr_of l.all ++ map (named (entries_of l.entries)) (map bound_expr_of (drop l.member-index l.members)) ≡ map (named (entries_of l.entries)) (map bound_expr_of l.members);
  lighter : all_weight (bound_exprs (drop l.member-index l.members)) ≤ all_weight (bound_exprs l.members);
}

abbrev pub invariant-named_arms-loop-next : goal.invariant-named_arms-loop-next
invariant-named_arms-loop-next g l = record {
  rest : map arm_pair l.all ++ map (named_arm (entries_of l.entries)) (map bound_arm_pair (drop l.next-index l.arms)) ≡ map (named_arm (entries_of l.entries)) (map bound_arm_pair l.arms);
  lighter : arms_weight (bound_arms (drop l.next-index l.arms)) ≤ arms_weight (bound_arms l.arms);
}
