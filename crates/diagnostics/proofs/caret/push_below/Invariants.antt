use Rattle.std.proofs.Common.{◌≡◌, ◌++◌, drop}
use Rattle.std.specs.List.{filter_map}
use Rattle.diagnostics.specs.Carets.{below}
use Rattle.diagnostics.proofs.caret.push_below.Given as goal

abbrev pub invariant-loop-b : goal.invariant-loop-b
invariant-loop-b g l = l.lines.items ++ filter_map below (drop l.b-index l.above) ≡ l.fn.lines.items ++ filter_map below l.above
