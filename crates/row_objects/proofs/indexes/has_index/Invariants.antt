use Rattle.std.proofs.Common.{◌≡◌, drop, map}
use Rattle.row_objects.specs.Indexes.{has_index}
use Rattle.row_objects.specs.View.{index_of}
use Rattle.row_objects.proofs.indexes.has_index.Given as goal

abbrev pub invariant-loop-index : goal.invariant-loop-index
invariant-loop-index g l = has_index l.name (map (λ i. index_of i) (drop l.index-index l.indexes)) ≡ has_index l.name (map (λ i. index_of i) l.indexes)
