use Rattle.expr.specs.View.{bound_expr_of}
use Rattle.lane_filters.proofs.Equality.{exchanged_truths}
use Rattle.lane_filters.proofs.Members.{weaker}
use Rattle.lane_filters.proofs.texts.text_equality.Goals as goal

pub returns-in-Some-clause-truths : goal.returns-in-Some-clause-truths
returns-in-Some-clause-truths g c = rw c.in-Some.is at c.in_ok-truths.ensures.truths

pub returns-in-None-clause-truths : goal.returns-in-None-clause-truths
returns-in-None-clause-truths g c = λ offset.
    weaker c.column_is_text-in-None.result _ _ (λ ts h. exchanged_truths c.args.role.now c.args.table.now.rows offset (bound_expr_of c.args.left.now) (bound_expr_of c.args.right.now) ts h)
    (c.column_is_text-in-None.ensures.truths offset)
