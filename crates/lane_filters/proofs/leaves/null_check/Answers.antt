use Rattle.std.proofs.Common.{map, sym, ap, subst, ◌∙◌}
use Rattle.eval.specs.Operators.{negated_if, null_test}
use Rattle.expr.specs.Bound as bound
use Rattle.expr.specs.View.{bound_expr_of}
use Rattle.lane_filters.specs.Outcomes.{AreTruths}
use Rattle.lane_filters.proofs.Nodes.{null_truths}
use Rattle.lane_filters.proofs.leaves.null_check.Goals as goal

pub returns-clause-truths : goal.returns-clause-truths
returns-clause-truths g c = λ role offset.
    let rows = c.args.table.now.rows in
    subst (λ (e : bound.BoundExpr). AreTruths role rows (bound.IsNull c.args.negated offset e) c.negated_if.result) (sym (ap bound_expr_of c.in-Column.is))
    (null_truths role rows c.args.negated offset c.in-Column.id c.negated_if.result
    (c.negated_if.ensures ∙ ap (map (negated_if c.args.negated)) (c.in_ok-truths.ensures ∙ ap (map null_test) c.data.ensures.cells)))
