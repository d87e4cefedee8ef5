use Rattle.std.proofs.lemmas.Result.{IfOk-weaker}
use Rattle.row_marks.proofs.marks.query_items.Goals as goal

pub returns-else-world-clause-seen : goal.returns-else-world-clause-seen
returns-else-world-clause-seen g c = IfOk-weaker c.marked_items.result _ _ (λ ms is grouped. is) (rw c.as_slice.ensures at c.marked_items.ensures.seen)
