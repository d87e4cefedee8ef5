use Rattle.std.proofs.Common.{◌≡◌, length, if◌then◌else◌}
use Rattle.std.specs.List.{list_any}
use Rattle.diagnostics.specs.Carets.{is_end, last_line}
use Rattle.diagnostics.proofs.caret.last_line.Given as goal

abbrev pub invariant-loop-b : goal.invariant-loop-b
invariant-loop-b l = (if list_any is_end l.rest then last_line l.rest else l.line) ≡ last_line l.before

abbrev pub decreases-loop-b : goal.decreases-loop-b
decreases-loop-b l = length l.rest
