use Rattle.std.proofs.Common.{ap, ◌∙◌, sym, option_map}
use Rattle.expr.specs.View.{bound_expr_of}
use Rattle.predicates.proofs.Connected.{factored_movable}
use Rattle.predicates.proofs.connectives.factored.Goals as goal

pub of_movable-requires : goal.of_movable-requires
of_movable-requires g c =
    factored_movable (bound_expr_of c.expression.result.now) (bound_expr_of c.in-Some.form.value) c.expression.ensures.movable (sym c.in_ok-form.ensures ∙ ap (option_map (λ b. bound_expr_of b.value)) c.in-Some.is)
