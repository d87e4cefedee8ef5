use Rattle.std.proofs.Common.{◌≡◌, drop, map}
use Rattle.row_objects.specs.Indexes.{is_indexed}
use Rattle.row_objects.specs.View.{index_of}
use Rattle.row_objects.proofs.indexes.is_indexed.Given as goal

abbrev pub invariant-loop-index : goal.invariant-loop-index
invariant-loop-index g l = is_indexed l.column (map (λ i. index_of i) (drop l.index-index l.indexes)) ≡ is_indexed l.column (map (λ i. index_of i) l.indexes)
