use Rattle.std.proofs.Common.{ap, ◌∙◌, refl, sym, Some}
use Rattle.expr.specs.Bound.{Column}
use Rattle.expr.specs.Movable.{movable}
use Rattle.expr.specs.declared.bound.BoundExpr as lent
use Rattle.expr.proofs.Copied.{made_of}
use Rattle.predicates.proofs.Sides.{not_null_made}
use Rattle.predicates.proofs.equalities.not_null_form.Goals as goal

pub of_movable-requires : goal.of_movable-requires
of_movable-requires g c = ap movable (c.in_ok-test-in-Some.ensures (Column c.in-Some.one) (made_of c.boxed-column.result (lent.Column c.in-Some.one) (Column c.in-Some.one) refl c.boxed-column.ensures))

pub returns-in_ok-test-in-Some : goal.returns-in_ok-test-in-Some
returns-in_ok-test-in-Some g c =
    let test = c.in_ok-test-in-Some.ensures (Column c.in-Some.one) (made_of c.boxed-column.result (lent.Column c.in-Some.one) (Column c.in-Some.one) refl c.boxed-column.ensures) in
    ap Some (c.of_movable.ensures ∙ test) ∙ not_null_made _ c.in-Some.one c.in-Some.other (sym c.in-Some.ensures) c.if-not-is_column.ensures
