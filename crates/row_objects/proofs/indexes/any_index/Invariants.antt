use Rattle.std.proofs.Common.{◌≡◌, drop, length, map}
use Rattle.row_objects.specs.Indexes.{any_index}
use Rattle.row_objects.specs.View.{table_entry}
use Rattle.row_objects.proofs.indexes.any_index.Given as goal

abbrev pub invariant-loop-index : goal.invariant-loop-index
invariant-loop-index g l = (l.index-end ≡ length l.tables) × (any_index l.name (map (λ t. table_entry t) (drop l.index l.tables)) ≡ any_index l.name (map (λ t. table_entry t) l.tables))
