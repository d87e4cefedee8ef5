use Rattle.std.proofs.Common.{◌≡◌, ◌≤◌, drop, map}
use Rattle.row_ast.specs.View.{expr_of, exprs, arms as arms_of}
use Rattle.scope.specs.View.{entry_of}
use Rattle.typing.specs.Grouping.{misplaced_members, misplaced_arms}
use Rattle.expr.specs.Offsets.{least_of}
use Rattle.row_ast.specs.Weights.{weight, all_weight, arms_weight}
use Rattle.typing.proofs.grouped.+misplaced.Given as goal

abbrev pub decreases-misplaced : goal.decreases-misplaced
decreases-misplaced g l = weight (expr_of l.expression.now)

abbrev pub decreases-misplaced_members : goal.decreases-misplaced_members
decreases-misplaced_members g l = all_weight (exprs l.members.now)

abbrev pub decreases-misplaced_arms : goal.decreases-misplaced_arms
decreases-misplaced_arms g l = arms_weight (arms_of l.arms.now)

abbrev pub invariant-misplaced_members-loop-member : goal.invariant-misplaced_members-loop-member
invariant-misplaced_members-loop-member g l = record {
  rest : least_of l.known (misplaced_members (map (λ e. entry_of e) l.entries) l.scope l.group_by l.of_groups (exprs (drop l.member-index l.members))) ≡ misplaced_members (map (λ e. entry_of e) l.entries) l.scope l.group_by l.of_groups (exprs l.members);
  lighter : all_weight (exprs (drop l.member-index l.members)) ≤ all_weight (exprs l.members);
}

abbrev pub invariant-misplaced_arms-loop-arm : goal.invariant-misplaced_arms-loop-arm
invariant-misplaced_arms-loop-arm g l = record {
  rest : least_of l.known (misplaced_arms (map (λ e. entry_of e) l.entries) l.scope l.group_by l.of_groups (arms_of (drop l.arm-index l.arms))) ≡ misplaced_arms (map (λ e. entry_of e) l.entries) l.scope l.group_by l.of_groups (arms_of l.arms);
  lighter : arms_weight (arms_of (drop l.arm-index l.arms)) ≤ arms_weight (arms_of l.arms);
}
