use Rattle.std.proofs.Common.{◌≡◌, ◌++◌, ap, ap₂, length, ◌∙◌}
use Rattle.answer_rows.specs.View.{rows_in, values_in}
use Rattle.answer_rows.proofs.Held.{rows_put}
use Rattle.answer_rows.proofs.rows.AnswerRows.insert_row.Goals as goal

pub returns-clause-ok : goal.returns-clause-ok
returns-clause-ok g c =
    let old = c.self.inside in
    let more = c.deref.ensures.value in
    let at = c.in_ok-place.ensures.place in
    let cells : c.put_cells.new.cells.items ≡ old.cells.items ++ old.unfinished.items = c.in_ok-place.ensures.ok ∙ ap (λ l. old.cells.items ++ l) more in
    let rows = ap₂ (rows_in old.texts) cells c.in_default.ensures.items
    ∙ rows_put old.texts old.cells.items old.unfinished.items c.in_ok-place.place at.0 (at.1 ∙ ap length more) old.places.items c.args.number c.self.invariant.places in
    let none = ap (values_in old.texts) c.clear.ensures.items in
    rw (← c.self.view_is) (λ i. record { rows = rows i; unfinished = none i })
