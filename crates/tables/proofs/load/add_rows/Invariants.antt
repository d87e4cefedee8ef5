use Rattle.std.proofs.Common.{◌≡◌, ◌+◌, [], Some, None, length, map}
use Rattle.value.specs.Columns.{column_of}
use Rattle.tables.proofs.Follow.{AddedSo}
use Rattle.tables.proofs.load.add_rows.Given as goal

abbrev pub invariant-loop-done : goal.invariant-loop-done
invariant-loop-done g l = record {
  types : l.rows.types ≡ l.fn.rows.types;
  finished : l.rows.unfinished ≡ [];
  expected : l.records.expected ≡ Some (length l.columns);
  given : l.records.given ≡ l.done + 1;
  fresh : l.records.failure ≡ None;
  added : AddedSo (map column_of l.columns) l.room l.done l.fn.records.records l.records.records l.fn.rows.rows l.rows.rows;
}
