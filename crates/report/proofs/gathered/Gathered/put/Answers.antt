use Rattle.memory.proofs.Cases.{on_ok}
use Rattle.tuples.specs.View.{world_of}
use Rattle.row_marks.specs.Marked.{computed_entry}
use Rattle.row_marks.proofs.Marking.{arguments_seen, items_seen}
use Rattle.report.specs.QueryStages.{query_aggregates}
use Rattle.report.proofs.gathered.Gathered.put.Goals as goal

pub returns-in-Groups : goal.returns-in-Groups
returns-in-Groups g c = λ kept calls marks h.
    let w = world_of c.args.world.now in
    let holds = rw c.in-Groups.is at h in
    let exprs = arguments_seen (computed_entry w) c.args.marks.now.arguments.items (query_aggregates w.query) marks.arguments in
    on_ok c.put_combination.result _ _ (λ more. (holds.0, more)) ((rw c.as_slice-arguments.ensures.value at c.put_combination.ensures) kept calls marks.marked_arguments exprs holds.1)

pub returns-in-Rows : goal.returns-in-Rows
returns-in-Rows g c = λ kept calls marks h.
    let w = world_of c.args.world.now in
    let holds = rw c.in-Rows.is at h in
    let exprs = items_seen (computed_entry w) c.args.marks.now.items.items w.query.items (marks.items holds.0) in
    on_ok c.put_items.result _ _ (λ more. (holds.0, more)) ((rw c.as_slice.ensures.value at c.put_items.ensures) kept marks.marked_items exprs holds.1)
