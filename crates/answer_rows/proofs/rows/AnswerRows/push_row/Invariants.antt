use Rattle.std.proofs.Common.{◌≡◌, take}
use Rattle.answer_rows.proofs.rows.AnswerRows.push_row.Given as goal

abbrev pub invariant-loop-i : goal.invariant-loop-i
invariant-loop-i g l = l.self ≡ record { rows = l.fn.self.rows; unfinished = take l.i l.row }
