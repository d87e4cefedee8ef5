use Rattle.std.proofs.Common.{◌∙◌, ap, map}
use Rattle.std.proofs.lemmas.Result.{IfOk-weaker}
use Rattle.expr.specs.View.{bound_expr_of}
use Rattle.tuples.specs.Guards as spec
use Rattle.access.proofs.Chosen.{joined}
use Rattle.access.proofs.guards.combined.Goals as goal

pub returns-in-Ok-with_restrictive : goal.returns-in-Ok-with_restrictive
returns-in-Ok-with_restrictive g c =
    IfOk-weaker c.conjunction.result _ _ (λ g h. h ∙ ap spec.Expr (joined (map bound_expr_of c.in-Ok-with_restrictive.members.items) (bound_expr_of c.in-Ok.first.value) _ _ c.in-Ok-with_restrictive.ensures.value c.in-Ok.ensures)) c.conjunction.ensures
