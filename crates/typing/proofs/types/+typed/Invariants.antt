use Rattle.std.proofs.Common.{◌≡◌, ◌≤◌, drop, map}
use Rattle.row_ast.specs.View.{expr_of, exprs, arms as arms_of}
use Rattle.scope.specs.View.{entry_of}
use Rattle.typing.specs.Typing.{both_arms, both_hold, typed_members, typed_arms}
use Rattle.row_ast.specs.Weights.{weight, all_weight, arms_weight}
use Rattle.typing.proofs.types.+typed.Given as goal

abbrev pub decreases-typed : goal.decreases-typed
decreases-typed g l = weight (expr_of l.expression.now)

abbrev pub decreases-typed_members : goal.decreases-typed_members
decreases-typed_members g l = all_weight (exprs l.members.now)

abbrev pub decreases-typed_arms : goal.decreases-typed_arms
decreases-typed_arms g l = arms_weight (arms_of l.arms.now)

abbrev pub invariant-typed_members-loop-member : goal.invariant-typed_members-loop-member
invariant-typed_members-loop-member g l = record {
  rest : both_hold l.known (typed_members (map (λ e. entry_of e) l.entries) l.scope (exprs (drop l.member-index l.members))) ≡ typed_members (map (λ e. entry_of e) l.entries) l.scope (exprs l.members);
  lighter : all_weight (exprs (drop l.member-index l.members)) ≤ all_weight (exprs l.members);
}

abbrev pub invariant-typed_arms-loop-arm : goal.invariant-typed_arms-loop-arm
invariant-typed_arms-loop-arm g l = record {
  rest : both_arms l.known (typed_arms (map (λ e. entry_of e) l.entries) l.scope (arms_of (drop l.arm-index l.arms))) ≡ typed_arms (map (λ e. entry_of e) l.entries) l.scope (arms_of l.arms);
  lighter : arms_weight (arms_of (drop l.arm-index l.arms)) ≤ arms_weight (arms_of l.arms);
}
