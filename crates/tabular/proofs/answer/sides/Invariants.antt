use Rattle.std.proofs.Common.{◌≡◌, ◌++◌, drop}
use Rattle.tabular.specs.ReplyTables.{sides_from}
use Rattle.tabular.proofs.answer.sides.Given as goal

abbrev pub invariant-loop-j : goal.invariant-loop-j
invariant-loop-j g l = l.sides.items ++ sides_from l.j (drop l.j l.headings) l.rows.rows ≡ sides_from 0 l.headings l.rows.rows
