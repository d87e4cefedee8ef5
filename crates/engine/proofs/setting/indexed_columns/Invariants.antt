use Rattle.std.proofs.Common.{◌≡◌, ◌++◌, drop, map}
use Rattle.row_objects.specs.View.{index_of}
use Rattle.store.specs.Derived.{indexed_columns}
use Rattle.engine.proofs.setting.indexed_columns.Given as goal

abbrev pub invariant-loop-index : goal.invariant-loop-index
invariant-loop-index g l = l.columns ++ indexed_columns (map (λ i. index_of i) (drop l.index-index l.indexes)) ≡ indexed_columns (map (λ i. index_of i) l.indexes)
