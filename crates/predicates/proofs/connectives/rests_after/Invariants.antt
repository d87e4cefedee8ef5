use Rattle.std.proofs.Common.{◌≡◌, drop}
use Rattle.expr.specs.View.{bound_expr_of, bound_exprs}
use Rattle.predicates.specs.Connectives.{rests_after}
use Rattle.predicates.proofs.Parts.{so_far}
use Rattle.predicates.proofs.connectives.rests_after.Given as goal

abbrev pub invariant-loop-member : goal.invariant-loop-member
invariant-loop-member g l =
    let a = bound_expr_of l.first in
    so_far (bound_exprs l.rests.items) (rests_after a (bound_exprs (drop l.member-index l.members))) ≡ rests_after a (bound_exprs l.members)
