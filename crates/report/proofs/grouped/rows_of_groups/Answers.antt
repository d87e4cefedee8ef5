use Rattle.std.proofs.Common.{ap, map, subst, sym, ◌∙◌}
use Rattle.std.proofs.lemmas.Result.{err_from_is_err_and}
use Rattle.memory.specs.Gives.{Gives, IsFailure}
use Rattle.memory.specs.Results.{and_then}
use Rattle.answer_rows.specs.Growing.{Growing}
use Rattle.expr.specs.View.{aggregate_calls_of}
use Rattle.eval.specs.Meaning.{◌>>=◌}
use Rattle.groups.specs.Taking.{rows_of}
use Rattle.tuples.specs.View.{world_of}
use Rattle.report.specs.Answer.{in_order}
use Rattle.report.specs.Ordered.{in_order_of}
use Rattle.report.specs.QueryStages.{arguments_fate, arguments_stage, query_aggregates, rows_of_group_rows, rows_of_groups, sums_stage}
use Rattle.report.proofs.Taking.{fails_first, in_turn, rows_are}
use Rattle.report.proofs.grouped.rows_of_groups.Goals as goal

pub returns-in_err-rows : goal.returns-in_err-rows
returns-in_err-rows g c = λ these h.
    let q = (world_of c.args.world.now).query in
    let role = c.args.world.now.role.now in
    let args = arguments_stage role q these in
    let failure = c.in_err-rows.field-0.0 in
    let are = ap (λ l. aggregate_calls_of l) c.as_slice.ensures ∙ c.in_ok-calls.ensures in
    let due = subst (IsFailure failure) (ap (λ calls. rows_of calls c.args.groups) are ∙ rows_are q.group_by (query_aggregates q) c.args.groups (map (arguments_fate role q) these) h) c.in_err-rows.ensures in
    let rows = subst (IsFailure failure) (in_turn args (sums_stage role q) (rows_of_group_rows role q)) (fails_first failure (and_then args (sums_stage role q)) (rows_of_group_rows role q) due) in
    let p = err_from_is_err_and c.from_residual-in_err-rows.result c.from_residual-in_err-rows.ensures.1 in
    rw (p.1, p.2) (fails_first failure (rows_of_groups role q these) (in_order role q) rows)

pub returns : goal.returns
returns g c = λ these h.
    let q = (world_of c.args.world.now).query in
    let role = c.args.world.now.role.now in
    let args = arguments_stage role q these in
    let are = ap (λ l. aggregate_calls_of l) c.as_slice.ensures ∙ c.in_ok-calls.ensures in
    let made = ap (λ calls. rows_of calls c.args.groups) are ∙ rows_are q.group_by (query_aggregates q) c.args.groups (map (arguments_fate role q) these) h in
    subst (Gives (λ (rows : Growing). rows.rows) c.rows_of_group_rows.result)
    (ap (in_order_of q.order_by q.limit) (sym (ap (λ r. r >>= rows_of_group_rows role q) (sym made ∙ c.in_ok-rows.ensures)) ∙ in_turn args (sums_stage role q) (rows_of_group_rows role q)))
    (rw c.as_slice-3.ensures at c.rows_of_group_rows.ensures)
