use Rattle.std.proofs.Common.{sym, ◌∙◌}
use Rattle.row_marks.proofs.mark_column.MarkColumn.put.Goals as goal

pub returns-clause-marks : goal.returns-clause-marks
returns-clause-marks g c = λ outcome are is. c.put_in_place.ensures.marks outcome (λ k m h. are k m (sym (c.reach.ensures.same k) ∙ h)) is

pub returns-clause-others : goal.returns-clause-others
returns-clause-others g c = λ k ne. c.put_in_place.ensures.others k ne ∙ c.reach.ensures.same k
