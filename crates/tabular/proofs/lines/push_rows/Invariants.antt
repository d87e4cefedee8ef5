use Rattle.std.proofs.Common.{◌≡◌, ◌++◌, flat_map, drop}
use Rattle.tabular.specs.Tables.{row_line}
use Rattle.tabular.proofs.lines.push_rows.Given as goal

abbrev pub invariant-loop-row : goal.invariant-loop-row
invariant-loop-row g l = l.out.items ++ flat_map (row_line l.columns) (drop l.row-index l.rows) ≡ l.fn.out.items ++ flat_map (row_line l.columns) l.rows
