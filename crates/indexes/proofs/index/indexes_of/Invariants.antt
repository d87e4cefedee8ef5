use Rattle.std.proofs.Common.{◌≡◌, ◌-◌, All, map, take}
use Rattle.indexes.specs.Indexes.{IsIndex}
use Rattle.indexes.proofs.index.indexes_of.Given as goal

abbrev pub invariant-loop-column : goal.invariant-loop-column
invariant-loop-column g l = record {
  columns : map (λ i. i.column) l.indexes ≡ take l.column-index l.columns;
  each : All (λ i. IsIndex l.table.rows (i.column - 1) i.numbers) l.indexes;
}
