use Rattle.std.proofs.Common.{ap, ◌∙◌}
use Rattle.value.specs.Datum.{datum}
use Rattle.value.specs.declared.operators.Comparison.TheVariants.{Equal}
use Rattle.expr.specs.Bound.{Literal, Comparison}
use Rattle.expr.specs.Movable.{movable}
use Rattle.expr.specs.View.{bound_expr_of}
use Rattle.predicates.proofs.equalities.column_equals.Goals as goal

pub of_movable-requires : goal.of_movable-requires
of_movable-requires g c =
    let d = datum c.args.value.now in
    ap movable (c.in_ok-equality.ensures (Literal d) (c.literal-right.ensures d c.copy.ensures) ∙ ap (λ x. Comparison Equal 0 (bound_expr_of x) (Literal d)) c.in_ok-left.ensures)

pub returns : goal.returns
returns g c =
    let d = datum c.args.value.now in
    c.of_movable.ensures ∙ c.in_ok-equality.ensures (Literal d) (c.literal-right.ensures d c.copy.ensures) ∙ ap (λ x. Comparison Equal 0 (bound_expr_of x) (Literal d)) c.in_ok-left.ensures
