use Rattle.std.proofs.Common.{◌≡◌, ◌≤◌, drop}
use Rattle.expr.specs.View.{bound_expr_of, bound_exprs}
use Rattle.expr.specs.Weights.{weight, all_weight}
use Rattle.predicates.specs.Inward.{before, all_carried}
use Rattle.predicates.proofs.carrying.+inward.Given as goal

abbrev pub decreases-carry : goal.decreases-carry
decreases-carry g l = weight (bound_expr_of l.expression.now)

abbrev pub decreases-carry_all : goal.decreases-carry_all
decreases-carry_all g l = all_weight (bound_exprs l.members.now)

abbrev pub invariant-carry_all-loop-member : goal.invariant-carry_all-loop-member
invariant-carry_all-loop-member g l = record {
  rest : before (bound_exprs l.all.items) (all_carried l.is_conjunction l.negate (bound_exprs (drop l.member-index l.members))) ≡ all_carried l.is_conjunction l.negate (bound_exprs l.members);
  lighter : all_weight (bound_exprs (drop l.member-index l.members)) ≤ all_weight (bound_exprs l.members);
}
