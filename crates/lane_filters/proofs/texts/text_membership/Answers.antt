use Rattle.std.proofs.Common.{map, ap, ◌∙◌}
use Rattle.value.specs.Datum.{datum}
use Rattle.expr.specs.View.{bound_expr_of}
use Rattle.eval.specs.Operators.{negated_if}
use Rattle.lane_filters.proofs.Equality.{member_truths}
use Rattle.lane_filters.proofs.texts.text_membership.Goals as goal

pub returns-in-Some-2-clause-truths : goal.returns-in-Some-2-clause-truths
returns-in-Some-2-clause-truths g c = λ role offset.
    let values = map datum c.args.values.now in
    member_truths role c.args.table.now.rows c.args.negated offset values (bound_expr_of c.args.operand.now) c.in-Some.column.now c.negated_if.result (c.in-Some.ensures.values role)
    (c.negated_if.ensures ∙ ap (map (negated_if c.args.negated)) (rw c.in-Some-2.is at c.in_ok-truths.ensures.truths))
