-- The indexes of the tables of a world.
use Rattle.std.specs.Prelude.{◌≡◌, ℕ, List, Some, slice_get}
use Rattle.indexes.specs.declared.index.IndexRows.{IndexRows}
use Rattle.indexes.specs.Indexes.{AreIndexes}
use Rattle.tuples.specs.declared.world.GuardedTable.{GuardedTable}

-- there is a table, and these are its indexes on the columns
pub record AreOf {A : Type 0} (tables : List (GuardedTable A)) (entry : ℕ) (columns : List ℕ) (these : List (IndexRows A)) : Type 0 where
  pub table : GuardedTable A
  pub at : slice_get tables entry ≡ Some table
  pub are : AreIndexes table.rows.now.rows columns these
