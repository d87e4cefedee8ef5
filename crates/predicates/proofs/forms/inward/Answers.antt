use Rattle.std.proofs.Common.{ap, ◌∙◌}
use Rattle.expr.specs.Movable.{movable}
use Rattle.expr.specs.View.{bound_expr_of}
use Rattle.predicates.proofs.Truth.{inward_movable}
use Rattle.predicates.proofs.forms.inward.Goals as goal

pub of_movable-requires : goal.of_movable-requires
of_movable-requires g c = ap movable c.in_ok-form.ensures ∙ inward_movable (bound_expr_of c.expression.result.now) c.expression.ensures.movable
