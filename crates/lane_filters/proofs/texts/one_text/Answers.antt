use Rattle.std.proofs.Common.{length, replicate, sym, ap, subst}
use Rattle.value.specs.Datum.{datum, text}
use Rattle.expr.specs.Bound as bound
use Rattle.expr.specs.View.{bound_expr_of}
use Rattle.lane_filters.specs.Outcomes.{AreValues}
use Rattle.lane_filters.proofs.Equality.{literal_text, role_values}
use Rattle.lane_filters.proofs.texts.one_text.Goals as goal

pub returns-in-CurrentUser-clause-values : goal.returns-in-CurrentUser-clause-values
returns-in-CurrentUser-clause-values g c = λ rows.
    subst (λ (e : bound.BoundExpr). AreValues c.args.role.now rows e (replicate (length rows) (text c.args.role.now))) (sym (ap bound_expr_of c.in-CurrentUser.is)) (role_values c.args.role.now rows)

pub returns-in-Literal-clause-values : goal.returns-in-Literal-clause-values
returns-in-Literal-clause-values g c = λ rows.
    literal_text c.args.role.now rows (bound_expr_of c.args.expression.now) (datum c.in-Literal.literal) (ap bound_expr_of c.in-Literal.is) c.text_of.result c.text_of.ensures.text
