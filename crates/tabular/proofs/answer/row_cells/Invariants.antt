use Rattle.std.proofs.Common.{◌≡◌, ◌++◌, drop}
use Rattle.tabular.specs.ReplyTables.{cells_of}
use Rattle.tabular.proofs.answer.row_cells.Given as goal

abbrev pub invariant-loop-i : goal.invariant-loop-i
invariant-loop-i g l = l.cells ++ cells_of (drop l.i l.row) ≡ cells_of l.row
