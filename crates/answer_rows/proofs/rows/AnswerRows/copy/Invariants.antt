use Rattle.std.proofs.Common.{◌≡◌, drop, take}
use Rattle.answer_rows.specs.Growing.{only}
use Rattle.answer_rows.proofs.rows.AnswerRows.copy.Given as goal

abbrev pub invariant-loop-i : goal.invariant-loop-i
invariant-loop-i g l = l.copy ≡ only (take l.i (drop l.start l.self.rows))
