use Rattle.std.proofs.Common.{ap, is_lt, ◌∙◌}
use Rattle.answer_rows.specs.Ordered.{output_cmp}
use Rattle.answer_rows.specs.View.{row_in}
use Rattle.answer_rows.proofs.Held.{last_place}
use Rattle.answer_rows.proofs.rows.AnswerRows.comes_before_last.Goals as goal

pub returns-in-Some : goal.returns-in-Some
returns-in-Some g c =
    let texts = c.self.inside.texts in
    let keys = c.args.keys.now in
    let row = c.unfinished_row.result in
    let last = c.in-Some.last.now in
    let at = rw (c.deref.ensures.value) at c.in-Some.ensures.item.3 in
    rw (← c.unfinished_row.ensures, ← c.self.view_is) (c.is_lt.ensures
    ∙ ap is_lt (c.cmp_outputs.ensures ∙ ap (output_cmp keys row) (c.row_at-last.ensures ∙ ap (λ l. row_in texts l last) c.deref-in-Some.ensures.value))
    ∙ last_place keys (row_in texts c.self.inside.cells.items) row c.self.inside.places.items last at.0 (at.1 last))
