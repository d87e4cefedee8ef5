use Rattle.std.proofs.Common.{ap, ◌∙◌}
use Rattle.expr.specs.Movable.{movable}
use Rattle.expr.specs.View.{bound_expr_of}
use Rattle.predicates.specs.Folded.{folded_node}
use Rattle.predicates.proofs.Keeping.{movable_kept}
use Rattle.predicates.proofs.NodeForms.{folded_node_movable}
use Rattle.predicates.proofs.forms.folded.Goals as goal

pub of_movable-requires : goal.of_movable-requires
of_movable-requires g c = ap movable c.in_ok-form.ensures ∙ movable_kept folded_node folded_node_movable (bound_expr_of c.expression.result.now) c.expression.ensures.movable
