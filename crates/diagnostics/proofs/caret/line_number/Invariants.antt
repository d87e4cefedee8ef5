use Rattle.std.proofs.Common.{◌≡◌, ◌+◌, ◌≤◌, drop, filter, length}
use Rattle.diagnostics.specs.Carets.{is_end, line_number}
use Rattle.diagnostics.proofs.caret.line_number.Given as goal

abbrev pub invariant-loop-b : goal.invariant-loop-b
invariant-loop-b l = (l.number + length (filter is_end (drop l.b-index l.before)) ≡ line_number l.before) × (l.number ≤ l.b-index + 1)
