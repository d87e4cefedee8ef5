use Rattle.std.proofs.Common.{IfOk, ap, subst, sym, ◌≡◌, ◌∙◌}
use Rattle.expr.specs.View.{bound_expr_of}
use Rattle.eval.specs.Marks.{outcome_of}
use Rattle.eval.specs.Meaning.{meaning}
use Rattle.value.specs.Datum.{row_at}
use Rattle.tuples.specs.Rows.{cells_of}
use Rattle.tuples.specs.View.{guarded_table_of, world_of}
use Rattle.row_marks.proofs.MarkedRows.{rows_at}
use Rattle.row_marks.proofs.marked.mark_on.Goals as goal

pub returns : goal.returns
returns g c =
    let w = world_of c.args.world.now in
    let rows = rows_at (λ t. guarded_table_of t) c.args.world.now.tables.now c.args.entry c.index-world-entry.result c.requires.entry in
    subst (λ r. IfOk c.mark.result (λ m. outcome_of m ≡ meaning (cells_of r) w.role (bound_expr_of c.args.expression.now)))
    (c.new-row.ensures ∙ ap (row_at _) c.from.ensures ∙ ap (λ rs. row_at rs c.args.number) (sym rows)) c.mark.ensures
