use Rattle.std.proofs.Common.{◌≡◌, ◌++◌, length}
use Rattle.tabular.specs.Tables.{row_line}
use Rattle.tabular.proofs.lines.push_row.Given as goal

abbrev pub invariant-loop-column : goal.invariant-loop-column
invariant-loop-column g l = l.out.items ++ row_line l.columns l.cells ≡ l.fn.out.items ++ row_line l.fn.columns l.fn.cells

abbrev pub decreases-loop-column : goal.decreases-loop-column
decreases-loop-column g l = length l.columns
