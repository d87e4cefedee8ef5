use Rattle.std.proofs.Common.{ap, ◌∙◌}
use Rattle.expr.specs.Movable.{movable}
use Rattle.expr.specs.View.{bound_expr_of}
use Rattle.predicates.proofs.Connected.{both_movable}
use Rattle.predicates.proofs.connectives.both.Goals as goal

pub of_movable-requires : goal.of_movable-requires
of_movable-requires g c = ap movable c.in_ok-whole.ensures ∙ both_movable (bound_expr_of c.into_expression.result.value) (bound_expr_of c.into_expression-2.result.value) c.into_expression.ensures.movable c.into_expression-2.ensures.movable
