use Rattle.std.proofs.Common.{◌≡◌, drop, max}
use Rattle.tabular.specs.Tables.{column_width}
use Rattle.tabular.proofs.widths.column_width.Given as goal

abbrev pub invariant-loop-row : goal.invariant-loop-row
invariant-loop-row g l = max l.width (column_width l.j (drop l.row-index l.rows)) ≡ column_width l.j l.rows
