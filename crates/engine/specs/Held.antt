-- The tables of a query have their contents.
use Rattle.std.specs.Prelude.{◌≡◌, ℕ, List, [], ◌∷◌, Ok, ⊤}
use Rattle.store.specs.Loading.{TableRows}
use Rattle.value.specs.Names.{Name}
use Rattle.scope.specs.Entry.{Entry}
use Rattle.resolve.specs.Resolved.{Bound}
use Rattle.store.specs.Database.{Database}
use Rattle.store.specs.Agreement.{Agrees, HasContents}
use Rattle.analysis.specs.Analysis.{admitted}

-- the table of each entry has contents, with its columns
abbrev pub HaveContents : List (Name × TableRows) → List Entry → Type 0
HaveContents tables [] = ⊤
HaveContents tables (e ∷ more) = HasContents tables e.table.name e.table × HaveContents tables more

-- so do those of a text that is admitted
abbrev pub HoldsEachTable : Type 0
HoldsEachTable = (database : Database) (role : Name) (text : List ℕ) (b : Bound) → Agrees database → admitted database.catalog role text ≡ Ok b → HaveContents database.tables b.entries
