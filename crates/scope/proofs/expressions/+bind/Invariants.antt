use Rattle.std.proofs.Common.{◌≡◌, ◌≤◌, drop, map}
use Rattle.row_ast.specs.View.{expr_of, exprs, arms as arms_of}
use Rattle.expr.specs.View.{bound_arm_pair, bound_expr_of}
use Rattle.row_ast.specs.Weights.{weight, all_weight, arms_weight}
use Rattle.memory.proofs.Each.{after}
use Rattle.scope.specs.BoundExprs.{bound_members, bound_arms}
use Rattle.scope.specs.View.{entry_of}
use Rattle.scope.proofs.expressions.+bind.Given as goal

abbrev pub decreases-bind_expr : goal.decreases-bind_expr
decreases-bind_expr g l = weight (expr_of l.expression.now)

abbrev pub decreases-bind_members : goal.decreases-bind_members
decreases-bind_members g l = all_weight (exprs l.members.now)

abbrev pub decreases-bind_arms : goal.decreases-bind_arms
decreases-bind_arms g l = arms_weight (arms_of l.arms.now)

abbrev pub invariant-bind_members-loop-member : goal.invariant-bind_members-loop-member
invariant-bind_members-loop-member g l = record {
  rest : after (map bound_expr_of l.all) (bound_members (map (λ e. entry_of e) l.entries) l.scope (exprs (drop l.member-index l.members))) ≡ bound_members (map (λ e. entry_of e) l.entries) l.scope (exprs l.members);
  lighter : all_weight (exprs (drop l.member-index l.members)) ≤ all_weight (exprs l.members);
}

abbrev pub invariant-bind_arms-loop-next : goal.invariant-bind_arms-loop-next
invariant-bind_arms-loop-next g l = record {
  rest : after (map bound_arm_pair l.all) (bound_arms (map (λ e. entry_of e) l.entries) l.scope (arms_of (drop l.next-index l.arms))) ≡ bound_arms (map (λ e. entry_of e) l.entries) l.scope (arms_of l.arms);
  lighter : arms_weight (arms_of (drop l.next-index l.arms)) ≤ arms_weight (arms_of l.arms);
}
