use Rattle.std.proofs.Common.{◌≡◌, ◌++◌, drop}
use Rattle.diagnostics.specs.Carets.{first_line}
use Rattle.diagnostics.proofs.caret.push_first_line.Given as goal

abbrev pub invariant-loop-b : goal.invariant-loop-b
invariant-loop-b g l = l.lines.items ++ first_line (drop l.b-index l.rest) ≡ l.fn.lines.items ++ first_line l.rest
