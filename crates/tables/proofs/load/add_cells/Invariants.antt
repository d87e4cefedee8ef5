use Rattle.std.proofs.Common.{◌≡◌, drop, length, map}
use Rattle.tables.specs.Loading.{cells_of}
use Rattle.value.specs.Columns.{column_of}
use Rattle.tables.proofs.Records.{after}
use Rattle.tables.proofs.load.add_cells.Given as goal

abbrev pub invariant-loop-i : goal.invariant-loop-i
invariant-loop-i g l = record {
  types : l.rows.types ≡ l.fn.rows.types;
  rows : l.rows.rows ≡ l.fn.rows.rows;
  read : (length l.rows.unfinished ≡ l.i) × (cells_of (map column_of l.columns) l.row 0 l.cells ≡ after l.rows.unfinished (cells_of (drop l.i (map column_of l.columns)) l.row l.i (drop l.i l.cells)));
}
