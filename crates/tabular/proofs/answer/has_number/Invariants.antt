use Rattle.std.proofs.Common.{◌≡◌, drop}
use Rattle.tabular.specs.ReplyTables.{has_number}
use Rattle.tabular.proofs.answer.has_number.Given as goal

abbrev pub invariant-loop-number : goal.invariant-loop-number
invariant-loop-number g l = has_number l.j (drop l.number l.rows.rows) ≡ has_number l.j l.rows.rows
