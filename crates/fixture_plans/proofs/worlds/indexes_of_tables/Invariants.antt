use Rattle.std.proofs.Common.{◌≡◌, ◌<◌, ℕ, List, Some, length, slice_index_or}
use Rattle.std.specs.List.{slice_get}
use Rattle.indexes.specs.declared.index.IndexRows.{IndexRows}
use Rattle.fixture_plans.specs.Worlds.{AreOf}
use Rattle.fixture_plans.proofs.worlds.indexes_of_tables.Given as goal

abbrev pub invariant-loop-entry : goal.invariant-loop-entry
invariant-loop-entry g l = record {
  long : length l.all ≡ l.entry;
  each : (k : ℕ) (d : List (IndexRows _)) → k < l.entry → (columns : List ℕ) → slice_get l.indexed k ≡ Some columns → AreOf l.tables k columns (slice_index_or l.all k d);
}
