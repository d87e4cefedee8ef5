use Rattle.std.proofs.Common.{◌≡◌, ◌++◌, length}
use Rattle.tabular.specs.Tables.{header_line}
use Rattle.tabular.proofs.lines.push_header.Given as goal

abbrev pub invariant-loop-column : goal.invariant-loop-column
invariant-loop-column g l = l.out.items ++ header_line l.columns l.cells ≡ l.fn.out.items ++ header_line l.fn.columns l.fn.headings

abbrev pub decreases-loop-column : goal.decreases-loop-column
decreases-loop-column g l = length l.columns
