use Rattle.std.proofs.Common.{◌≡◌, ◌-◌, All, map, take}
use Rattle.indexes.specs.Indexes.{IsIndex}
use Rattle.indexes.proofs.index.remade.Given as goal

abbrev pub invariant-loop-other : goal.invariant-loop-other
invariant-loop-other g l = record {
  columns : map (λ i. i.column) l.indexes.items ≡ map (λ i. i.column) (take l.other-index l.others);
  each : All (λ i. IsIndex l.table.rows (i.column - 1) i.numbers) l.indexes.items;
}
