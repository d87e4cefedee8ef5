use Rattle.std.proofs.Common.{ap, sym, ◌∙◌}
use Rattle.std.proofs.lemmas.List.{take-map}
use Rattle.answer_rows.specs.View.{row_in, rows_in}
use Rattle.answer_rows.proofs.rows.AnswerRows.truncate.Goals as goal

pub returns-clause-rows : goal.returns-clause-rows
returns-clause-rows g c =
    let old = c.self.inside in
    rw (← c.self.view_is) (ap (rows_in old.texts old.cells.items) c.truncate.ensures.items ∙ sym (take-map (row_in old.texts old.cells.items) c.args.len old.places.items))
