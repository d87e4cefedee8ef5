-- The store of a schema text and the files of its tables, or the error where there is none.
use Rattle.std.specs.Prelude.{◌≡◌, ℕ, List, Option, Ok, Err, ⊤}
use Rattle.tables.specs.Loading.{TableRows}
use Rattle.memory.specs.declared.failure.Failure as memory
use Rattle.memory.specs.declared.failure.Failure.TheVariants as failure
use Rattle.value.specs.Names.{Name}
use Rattle.engine.specs.Database.{Database, at_start}
use Rattle.setup.specs.Schema.{schema_applied}
use Rattle.setup.specs.Loads.{AreLoaded, StopsAtTable, names_of}
use Rattle.setup.specs.declared.error.SchemaError.{SchemaError}
use Rattle.setup.specs.declared.error.SetupError.{SetupError}
use Rattle.setup.specs.declared.error.SetupError.TheVariants as fault

-- the schema text makes the tables, without rows, and each is loaded from its file
abbrev pub IsOpened : List ℕ → (Name → Option (List ℕ)) → Database → Type 0
IsOpened schema bytes store = (empty : Database) × (schema_applied at_start schema ≡ Ok empty)
    × (store.catalog ≡ empty.catalog) × AreLoaded bytes (names_of empty.tables) empty.tables store.tables

-- the error of a schema text that is not applied
abbrev pub schema_fault : {A : Type 0} → memory.Failure SchemaError → memory.Failure (SetupError A)
schema_fault (failure.Error e) = failure.Error (fault.Schema e)
schema_fault failure.OutOfMemory = failure.OutOfMemory

-- the error is that of the schema text; or memory ran out
abbrev pub IsOfSchema : {A : Type 0} → List ℕ → memory.Failure (SetupError A) → Type 0
IsOfSchema schema (failure.Error (fault.Schema e)) = schema_applied at_start schema ≡ Err e
IsOfSchema schema (failure.Error (fault.Input path)) = ⊥
IsOfSchema schema (failure.Error (fault.Data table column e)) = ⊥
IsOfSchema schema failure.OutOfMemory = ⊤

-- the schema text makes tables, and this is the error of the first whose rows are not loaded
abbrev pub IsOfTable : {A : Type 0} → List ℕ → (Name → List ℕ) → (Name → Option (List ℕ)) → memory.Failure (SetupError A) → Type 0
IsOfTable schema paths bytes f = (empty : Database) × (loaded : List (Name × TableRows)) × (schema_applied at_start schema ≡ Ok empty) × StopsAtTable paths bytes empty.tables loaded f

-- the error is that of the schema text, or else that of a table; or memory ran out
abbrev pub IsNotOpened : {A : Type 0} → List ℕ → (Name → List ℕ) → (Name → Option (List ℕ)) → memory.Failure (SetupError A) → Type 0
IsNotOpened schema paths bytes (failure.Error (fault.Schema e)) = schema_applied at_start schema ≡ Err e
IsNotOpened {A = A} schema paths bytes (failure.Error (fault.Input path)) = IsOfTable {A = A} schema paths bytes (failure.Error (fault.Input path))
IsNotOpened {A = A} schema paths bytes (failure.Error (fault.Data table column e)) = IsOfTable {A = A} schema paths bytes (failure.Error (fault.Data table column e))
IsNotOpened schema paths bytes failure.OutOfMemory = ⊤
