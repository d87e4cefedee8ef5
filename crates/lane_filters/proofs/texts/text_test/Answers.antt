use Rattle.std.proofs.Common.{List, sym, subst}
use Rattle.value.specs.declared.order.Truth.{Truth}
use Rattle.value.specs.declared.operators.Comparison.{Comparison}
use Rattle.value.specs.declared.operators.Comparison.TheVariants.{NotEqual}
use Rattle.expr.specs.Bound as bound
use Rattle.expr.specs.View.{bound_expr_of}
use Rattle.lane_filters.specs.Outcomes.{AreTruths}
use Rattle.lane_filters.proofs.Equality.{opposite_truths}
use Rattle.lane_filters.proofs.texts.text_test.Goals as goal

pub returns-in-Some-clause-truths : goal.returns-in-Some-clause-truths
returns-in-Some-clause-truths g c = λ offset.
    let role = c.args.role.now in
    let rows = c.args.table.now.rows in
    let e = bound_expr_of c.args.left.now in
    let f = bound_expr_of c.args.right.now in
    let equal = rw c.in-Some.is at c.in_ok-truths-in-NotEqual.ensures.truths in
    subst (λ (op : Comparison). AreTruths role rows (bound.Comparison op offset e f) c.negate.new.self) (sym c.in-NotEqual.is)
    (subst (λ (ts : List Truth). AreTruths role rows (bound.Comparison NotEqual offset e f) ts) (sym c.negate.ensures) (opposite_truths role rows offset e f c.in-Some.truths (equal offset)))
