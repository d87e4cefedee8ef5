use Rattle.std.proofs.Common.{◌≡◌, ◌++◌, drop, map}
use Rattle.tabular.specs.ReplyTables.{cells_of}
use Rattle.tabular.proofs.answer.all_cells.Given as goal

abbrev pub invariant-loop-number : goal.invariant-loop-number
invariant-loop-number g l = l.cells ++ map cells_of (drop l.number l.rows.rows) ≡ map cells_of l.rows.rows
