use Rattle.std.proofs.Common.{rules, is_lt}
use Rattle.std.proofs.lemmas.List.Sorted.{IsPartitionPoint-from_clause}
use Rattle.bags.proofs.Order.{ascends_from_sorted}
use Rattle.answer_rows.specs.Ordered.{output_cmp}
use Rattle.answer_rows.specs.View.{row_in}
use Rattle.answer_rows.proofs.FirstRows.{parts, inserted}
use Rattle.answer_rows.proofs.OutputOrder.{output_total}
use Rattle.answer_rows.proofs.rows.AnswerRows.number_in_order.Goals as goal

pub returns-clause-number : goal.returns-clause-number
returns-clause-number g c =
    let cmp = output_cmp c.args.keys.now in
    let total = output_total c.args.keys.now in
    let view = row_in c.self.inside.texts c.as_slice-cells.result.now in
    let row = c.unfinished_row-row.result in
    let places = c.deref.result.now in
    rw (← c.unfinished_row-row.ensures, ← c.self.view_is, ← c.as_slice-cells.ensures.value, ← c.deref.ensures.value) (λ sorted.
    let point = IsPartitionPoint-from_clause (λ p. is_lt (cmp (view p) row)) places c.partition_point.result c.partition_point.ensures.partitioned (parts cmp total view row places (ascends_from_sorted cmp total _ sorted)) (λ a r f' k. search rules) in
    inserted cmp total view row places c.partition_point.result point c.partition_point.ensures.bound)
