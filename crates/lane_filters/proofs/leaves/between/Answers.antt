use Rattle.std.proofs.Common.{List, [], map, sym, ap, subst, ◌∙◌}
use Rattle.value.specs.declared.order.Truth.{Truth}
use Rattle.value.specs.declared.operators.Comparison.TheVariants as operator
use Rattle.eval.specs.Operators.{negated_if}
use Rattle.expr.specs.Bound as bound
use Rattle.expr.specs.View.{bound_expr_of}
use Rattle.lane_filters.specs.Outcomes.{AreTruths}
use Rattle.lane_filters.proofs.Nodes.{as_many_truths, between_truths}
use Rattle.lane_filters.proofs.leaves.between.Goals as goal

pub and-requires : goal.and-requires
and-requires g c =
    let rows = c.args.table.now.rows in
    let e = bound_expr_of c.args.operand.now in
    let first = rw c.in-Some.is at (c.in_ok-truths.ensures.truths [] 0) in
    let second = rw c.in-Some-2.is at (c.in_ok-below.ensures.truths [] 0) in
    as_many_truths [] rows (bound.Comparison operator.LessOrEqual 0 e (bound_expr_of c.args.high.now)) c.in-Some-2.below second
    ∙ sym (as_many_truths [] rows (bound.Comparison operator.GreaterOrEqual 0 e (bound_expr_of c.args.low.now)) c.in-Some.truths first)

pub returns-clause-truths : goal.returns-clause-truths
returns-clause-truths g c = λ role offset.
    let rows = c.args.table.now.rows in
    let e = bound_expr_of c.args.operand.now in
    let low = bound_expr_of c.args.low.now in
    let high = bound_expr_of c.args.high.now in
    let first = rw c.in-Some.is at (c.in_ok-truths.ensures.truths role offset) in
    let second = rw c.in-Some-2.is at (c.in_ok-below.ensures.truths role offset) in
    subst (λ (ts : List Truth). AreTruths role rows (bound.Between c.args.negated offset e low high) ts) (sym (c.negated_if.ensures ∙ ap (map (negated_if c.args.negated)) c.and.ensures))
    (between_truths role rows c.args.negated offset e low high c.in-Some.truths c.in-Some-2.below first second)
