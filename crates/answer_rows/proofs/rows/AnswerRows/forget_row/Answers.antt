use Rattle.std.proofs.Common.{ap, ◌∙◌}
use Rattle.answer_rows.specs.View.{rows_in, values_in}
use Rattle.answer_rows.proofs.Held.{rows_cut}
use Rattle.answer_rows.proofs.rows.AnswerRows.forget_row.Goals as goal

pub returns : goal.returns
returns g c =
    let old = c.self.inside in
    let rows = ap (λ l. rows_in l old.cells.items old.places.items) c.truncate.ensures ∙ rows_cut old.finished_texts old.texts old.cells.items c.self.invariant.texts old.places.items in
    let none = ap (values_in c.truncate.new.self) c.clear.ensures.items in
    rw (← c.self.view_is) (λ i. record { rows = rows i; unfinished = none i })
