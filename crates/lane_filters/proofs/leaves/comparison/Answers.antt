use Rattle.std.proofs.Common.{ℕ, List, [], length, sym, ap, subst, ◌∙◌}
use Rattle.std.specs.Simd.Lanes.{zip2}
use Rattle.value.specs.declared.order.Truth.{Truth}
use Rattle.eval.specs.Operators.{comparison_of}
use Rattle.expr.specs.Bound as bound
use Rattle.expr.specs.View.{bound_expr_of}
use Rattle.lane_filters.specs.Outcomes.{AreTruths}
use Rattle.lane_filters.specs.View.{values_of}
use Rattle.lane_filters.proofs.Nodes.{as_many_values, comparison_truths}
use Rattle.lane_filters.proofs.leaves.comparison.Goals as goal

pub compared-requires-clause-left : goal.compared-requires-clause-left
compared-requires-clause-left g c =
    let rows = c.args.table.now.rows in
    let left = c.in-Some.left in
    ap (λ (n : ℕ). length (values_of n left)) c.row_count.ensures
    ∙ as_many_values [] rows (bound_expr_of c.args.left.now) (values_of (length rows) left) (c.in-Some.ensures.values []) ∙ sym c.row_count.ensures

pub compared-requires-clause-right : goal.compared-requires-clause-right
compared-requires-clause-right g c =
    let rows = c.args.table.now.rows in
    let right = c.in-Some-operand_of.right in
    ap (λ (n : ℕ). length (values_of n right)) c.row_count.ensures
    ∙ as_many_values [] rows (bound_expr_of c.args.right.now) (values_of (length rows) right) (c.in-Some-operand_of.ensures.values []) ∙ sym c.row_count.ensures

pub returns-clause-truths : goal.returns-clause-truths
returns-clause-truths g c = λ role offset.
    let rows = c.args.table.now.rows in
    let e = bound_expr_of c.args.left.now in
    let f = bound_expr_of c.args.right.now in
    let left = c.in-Some.left in
    let right = c.in-Some-operand_of.right in
    subst (λ (ts : List Truth). AreTruths role rows (bound.Comparison c.args.op offset e f) ts)
    (sym (c.in_ok-compared.ensures ∙ ap (λ (n : ℕ). zip2 (comparison_of c.args.op) (values_of n left) (values_of n right)) c.row_count.ensures))
    (comparison_truths role rows c.args.op offset e f (values_of (length rows) left) (values_of (length rows) right) (c.in-Some.ensures.values role) (c.in-Some-operand_of.ensures.values role))
