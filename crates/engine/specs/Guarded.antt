-- The table of each entry with its guard, and its indexes.
use Rattle.std.specs.Prelude.{List, [], ◌∷◌, ⊤}
use Rattle.indexes.specs.declared.index.IndexRows.{IndexRows}
use Rattle.scope.specs.Entry.{Entry}
use Rattle.tuples.specs.Guards.{Guard}
use Rattle.tuples.specs.World.{GuardedTable}
use Rattle.store.specs.Database.{Database, Rows}
use Rattle.store.specs.Derived.{HasIndexes}

abbrev pub guarded_tables : Rows → List Entry → List Guard → List GuardedTable
guarded_tables rows [] guards = []
guarded_tables rows (e ∷ entries) [] = []
guarded_tables rows (e ∷ entries) (g ∷ guards) = record { rows = rows e.table.name; guard = g } ∷ guarded_tables rows entries guards

-- of each entry the indexes of its table
abbrev pub HaveIndexes : {A : Type 0} → Database → List Entry → List (List (IndexRows A)) → Type 0
HaveIndexes database [] [] = ⊤
HaveIndexes database (e ∷ entries) (these ∷ all) = HasIndexes database e.table.name these × HaveIndexes database entries all
HaveIndexes database _ _ = ⊥
