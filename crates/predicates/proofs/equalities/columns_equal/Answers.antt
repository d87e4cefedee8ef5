use Rattle.std.proofs.Common.{ap, ◌∙◌, refl}
use Rattle.value.specs.declared.operators.Comparison.TheVariants.{Equal}
use Rattle.expr.specs.Bound.{Column, Comparison}
use Rattle.expr.specs.Movable.{movable}
use Rattle.expr.specs.View.{bound_expr_of}
use Rattle.expr.specs.declared.bound.BoundExpr as lent
use Rattle.expr.proofs.Copied.{made_of}
use Rattle.predicates.proofs.equalities.columns_equal.Goals as goal

pub of_movable-requires : goal.of_movable-requires
of_movable-requires g c =
    let right = made_of c.boxed-right.result (lent.Column c.args.other) (Column c.args.other) refl c.boxed-right.ensures in
    ap movable (c.in_ok-equality.ensures (Column c.args.other) right ∙ ap (λ x. Comparison Equal 0 (bound_expr_of x) (Column c.args.other)) c.in_ok-left.ensures)

pub returns : goal.returns
returns g c =
    let right = made_of c.boxed-right.result (lent.Column c.args.other) (Column c.args.other) refl c.boxed-right.ensures in
    c.of_movable.ensures ∙ c.in_ok-equality.ensures (Column c.args.other) right ∙ ap (λ x. Comparison Equal 0 (bound_expr_of x) (Column c.args.other)) c.in_ok-left.ensures
