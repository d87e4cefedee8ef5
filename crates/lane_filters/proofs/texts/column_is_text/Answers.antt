use Rattle.std.proofs.Common.{List, sym, subst}
use Rattle.value.specs.declared.order.Truth.{Truth}
use Rattle.value.specs.declared.operators.Comparison.TheVariants.{Equal}
use Rattle.expr.specs.Bound as bound
use Rattle.expr.specs.View.{bound_expr_of}
use Rattle.lane_filters.specs.Outcomes.{AreTruths}
use Rattle.lane_filters.proofs.Equality.{equal_truths}
use Rattle.lane_filters.proofs.Nodes.{as_many_values}
use Rattle.lane_filters.proofs.texts.column_is_text.Goals as goal

pub returns-clause-truths : goal.returns-clause-truths
returns-clause-truths g c = λ offset.
    let role = c.args.role.now in
    let rows = c.args.table.now.rows in
    let e = bound_expr_of c.args.column.now in
    let f = bound_expr_of c.args.text.now in
    let cells = c.in-Some.column.now in
    let values = c.in-Some.ensures.values role in
    subst (λ (ts : List Truth). AreTruths role rows (bound.Comparison Equal offset e f) ts) (sym c.in_ok-of_equal.ensures)
    (equal_truths role rows offset e f cells c.in-Some-one_text.text.now values (c.in-Some-one_text.ensures.values rows) (as_many_values role rows e cells values))
