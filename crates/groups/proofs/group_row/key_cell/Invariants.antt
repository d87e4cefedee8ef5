use Rattle.std.proofs.Common.{◌≡◌}
use Rattle.std.specs.Iterator.Adapters.{zip_first, zip_second}
use Rattle.std.specs.Slice.Iter.{iter_rest}
use Rattle.value.specs.Datum.{row_of}
use Rattle.groups.specs.GroupRow.{key_cell}
use Rattle.groups.proofs.group_row.key_cell.Given as goal

abbrev pub invariant-loop-column : goal.invariant-loop-column
invariant-loop-column g l = key_cell (iter_rest (zip_first l.column-iterator)) (row_of (iter_rest (zip_second l.column-iterator))) l.id ≡ key_cell l.columns (row_of l.key) l.id
