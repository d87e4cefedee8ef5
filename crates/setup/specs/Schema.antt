-- The database that a schema text makes.
use Rattle.std.specs.Prelude.{◌≡◌, ◌⊎◌, ℕ, ◌+◌, List, [], ◌∷◌, take, codes, Result, Ok, Err}
use Rattle.memory.specs.Results.{and_then}
use Rattle.memory.specs.declared.failure.Failure.{Failure}
use Rattle.memory.specs.declared.failure.Failure.TheVariants.{Error, OutOfMemory}
use Rattle.value.specs.declared.refusal.Refusal.{Refusal}
use Rattle.value.specs.declared.refusal.Refusal.TheVariants as code
use Rattle.value.specs.Names.{Name}
use Rattle.row_ast.specs.Statements.{Statement}
use Rattle.syntax.specs.Parsing.{parsed_schema}
use Rattle.syntax.specs.declared.error.ParseError.{ParseError}
use Rattle.syntax.specs.declared.error.ParseError.TheVariants as parsing
use Rattle.engine.specs.Database.{Database, changed_database}
use Rattle.setup.specs.declared.error.SchemaError.{SchemaError}
use Rattle.setup.specs.declared.error.SchemaError.TheVariants as errors

-- the superuser who is there from the start
abbrev pub root : Name
root = codes "root"

-- a refusal of the statement of that number
abbrev pub numbered : ℕ → Result Database Refusal → Result Database SchemaError
numbered n (Ok db) = Ok db
numbered n (Err why) = Err (errors.Statement n why)

-- the error of a statement that is refused by a code; out of memory is no refusal of the statement
abbrev pub refused_by : ℕ → Refusal → Failure SchemaError
refused_by n code.OutOfMemory = OutOfMemory
refused_by n why = Error (errors.Statement n why)

-- the database after each statement in turn, applied by root, or the first refusal; statements count from a number
abbrev pub applied_from : ℕ → Database → List Statement → Result Database SchemaError
applied_from n db [] = Ok db
applied_from n db (s ∷ more) = and_then (numbered n (changed_database db root s)) (λ after. applied_from (n + 1) after more)

-- the statements count from 1
abbrev pub applied : Database → List Statement → Result Database SchemaError
applied db statements = applied_from 1 db statements

abbrev pub schema_error : ParseError → SchemaError
schema_error (parsing.Syntax offset) = errors.Syntax offset
schema_error parsing.Limit = errors.Limit

abbrev pub applied_text : Database → Result (List Statement) ParseError → Result Database SchemaError
applied_text db (Err e) = Err (schema_error e)
applied_text db (Ok statements) = applied db statements

-- the database after a schema text, or the error of a refused one
abbrev pub schema_applied : Database → List ℕ → Result Database SchemaError
schema_applied db text = applied_text db (parsed_schema text)

-- one statement made the database that is due, or changed nothing and was refused, or memory ran out
abbrev pub IsStep : ℕ → Database → Database → Statement → Result (Unit {0}) (Failure SchemaError) → Type 0
IsStep n old new s (Ok u) = changed_database old root s ≡ Ok new
IsStep n old new s (Err e) = (new ≡ old) × (why : Refusal) × (e ≡ refused_by n why) × ((why ≡ code.OutOfMemory) ⊎ (changed_database old root s ≡ Err why))

-- the statements before the refused one were applied, and no more; where memory ran out, some were
abbrev pub StopsAfter : Database → Database → List Statement → Failure SchemaError → Type 0
StopsAfter old new statements (Error (errors.Syntax offset)) = new ≡ old
StopsAfter old new statements (Error errors.Limit) = new ≡ old
StopsAfter old new statements (Error (errors.Statement n why)) = (k : ℕ) × (n ≡ k + 1) × (applied old (take k statements) ≡ Ok new)
StopsAfter old new statements OutOfMemory = (k : ℕ) × (applied old (take k statements) ≡ Ok new)

-- the database after a refused text; a text that is no schema changes nothing
abbrev pub StopsAfterFront : Database → Database → Result (List Statement) ParseError → Failure SchemaError → Type 0
StopsAfterFront old new (Ok statements) e = StopsAfter old new statements e
StopsAfterFront old new (Err f) e = new ≡ old
