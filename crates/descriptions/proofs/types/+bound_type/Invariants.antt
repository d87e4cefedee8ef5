use Rattle.std.proofs.Common.{◌≡◌, ◌≤◌, drop, map}
use Rattle.expr.specs.View.{bound_arms, bound_expr_of}
use Rattle.expr.specs.Weights.{arms_weight, weight}
use Rattle.scope.specs.View.{entry_of}
use Rattle.descriptions.specs.Types.{arms_type, first_type}
use Rattle.descriptions.proofs.types.+bound_type.Given as goal

abbrev pub decreases-bound_type : goal.decreases-bound_type
decreases-bound_type g l = weight (bound_expr_of l.expression.now)

abbrev pub decreases-arms_type : goal.decreases-arms_type
decreases-arms_type g l = arms_weight (bound_arms l.arms.now)

abbrev pub invariant-arms_type-loop-arm : goal.invariant-arms_type-loop-arm
invariant-arms_type-loop-arm g l = record {
  rest : first_type l.known (arms_type (map (λ e. entry_of e) l.entries) (bound_arms (drop l.arm-index l.arms))) ≡ arms_type (map (λ e. entry_of e) l.entries) (bound_arms l.arms);
  lighter : arms_weight (bound_arms (drop l.arm-index l.arms)) ≤ arms_weight (bound_arms l.arms);
}
