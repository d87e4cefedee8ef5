use Rattle.std.proofs.Common.{◌≡◌, ◌++◌, drop, map}
use Rattle.tabular.specs.Cells.{shown}
use Rattle.tabular.proofs.answer.heading_cells.Given as goal

abbrev pub invariant-loop-heading : goal.invariant-loop-heading
invariant-loop-heading g l = l.made ++ map shown (drop l.heading-index l.headings) ≡ map shown l.headings
