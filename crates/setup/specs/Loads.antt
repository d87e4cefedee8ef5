-- The tables of a store, loaded from the files of a folder.
use Rattle.std.specs.Prelude.{◌≡◌, ◌⊎◌, ℕ, List, [], ◌∷◌, ◌++◌, map, Option, None, Some, Ok, Err, slice_get, ⊤}
use Rattle.memory.specs.declared.failure.Failure as memory
use Rattle.memory.specs.declared.failure.Failure.TheVariants as failure
use Rattle.tables.specs.Loading.{TableRows}
use Rattle.value.specs.Names.{Name}
use Rattle.tables.specs.LoadErrors.{column_name}
use Rattle.engine.specs.StoreError.TheVariants.{Data}
use Rattle.engine.specs.Database.{columns_in}
use Rattle.engine.specs.Loads.{IsLoadFrom}
use Rattle.setup.specs.declared.error.SetupError.{SetupError}
use Rattle.setup.specs.declared.error.SetupError.TheVariants as fault

-- the names of the tables, in order of creation
abbrev pub names_of : List (Name × TableRows) → List Name
names_of contents = map (λ entry. entry.0) contents

-- each table in turn has the rows of its file, whose bytes may be known
abbrev pub AreLoaded : (Name → Option (List ℕ)) → List Name → List (Name × TableRows) → List (Name × TableRows) → Type 0
AreLoaded bytes [] old new = new ≡ old
AreLoaded bytes (name ∷ names) old new = (mid : List (Name × TableRows)) × IsLoadFrom (bytes name) old mid name (Ok tt) × AreLoaded bytes names mid new

-- a reader has these bytes left, where they are known
abbrev pub Knows : Option (List ℕ) → Option (List ℕ) → Type 0
Knows None left = ⊤
Knows (Some bytes) left = left ≡ Some bytes

-- an error of opening the file of a path: it cannot be read, or memory ran out
abbrev pub IsOfFile : {A : Type 0} → List ℕ → memory.Failure (SetupError A) → Type 0
IsOfFile path (failure.Error (fault.Input p)) = p ≡ path
IsOfFile path (failure.Error (fault.Schema e)) = ⊥
IsOfFile path (failure.Error (fault.Data table column e)) = ⊥
IsOfFile path failure.OutOfMemory = ⊤

-- the error of rows that were read and not loaded: their first load error, or memory ran out
abbrev pub IsRowFault : {A : Type 0} → Option (List ℕ) → List (Name × TableRows) → Name → memory.Failure (SetupError A) → Type 0
IsRowFault bytes contents name (failure.Error (fault.Input path)) = ⊥
IsRowFault bytes contents name (failure.Error (fault.Schema e)) = ⊥
IsRowFault bytes contents name (failure.Error (fault.Data table column e)) =
    (table ≡ name) × (column ≡ column_name (columns_in contents name) e) × IsLoadFrom bytes contents contents name (Err (failure.Error (Data e)))
IsRowFault bytes contents name failure.OutOfMemory = ⊤

-- the error of a table whose rows were not loaded: its file cannot be read, or a load error of its rows
abbrev pub IsErrorOf : {A : Type 0} → List ℕ → Option (List ℕ) → List (Name × TableRows) → Name → memory.Failure (SetupError A) → Type 0
IsErrorOf path bytes contents name f = IsOfFile path f ⊎ IsRowFault bytes contents name f

-- the table at an index, in order of creation, has the rows of its file
abbrev pub IsLoadedAt : (Name → Option (List ℕ)) → List (Name × TableRows) → List (Name × TableRows) → ℕ → Type 0
IsLoadedAt bytes old new index = (name : Name) × (slice_get (names_of old) index ≡ Some name) × IsLoadFrom (bytes name) old new name (Ok tt)

-- the error is that of the table at an index
abbrev pub IsErrorAt : {A : Type 0} → (Name → List ℕ) → (Name → Option (List ℕ)) → List (Name × TableRows) → ℕ → memory.Failure (SetupError A) → Type 0
IsErrorAt paths bytes old index f = (name : Name) × (slice_get (names_of old) index ≡ Some name) × IsErrorOf (paths name) (bytes name) old name f

-- the tables before one were loaded, and this is the error of that one
abbrev pub StopsAtTable : {A : Type 0} → (Name → List ℕ) → (Name → Option (List ℕ)) → List (Name × TableRows) → List (Name × TableRows) → memory.Failure (SetupError A) → Type 0
StopsAtTable paths bytes old new f =
    (prefix : List Name) × (name : Name) × (rest : List Name) × (names_of old ≡ prefix ++ name ∷ rest) × AreLoaded bytes prefix old new × IsErrorOf (paths name) (bytes name) new name f
