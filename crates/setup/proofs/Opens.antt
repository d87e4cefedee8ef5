-- The error of a schema text that is not applied.
use Rattle.std.proofs.Common.{ℕ, List}
use Rattle.memory.specs.Gives.{IsFailure}
use Rattle.memory.specs.declared.failure.Failure.{Failure}
use Rattle.memory.specs.declared.failure.Failure.TheVariants.{Error, OutOfMemory}
use Rattle.engine.specs.Database.{at_start}
use Rattle.setup.specs.Schema.{schema_applied}
use Rattle.setup.specs.Opening.{IsOfSchema, schema_fault}
use Rattle.setup.specs.declared.error.SchemaError.{SchemaError}

pub schema_stops : (A : Type 0) (schema : List ℕ) (e : Failure SchemaError) → IsFailure e (schema_applied at_start schema) → IsOfSchema {A = A} schema (schema_fault e)
schema_stops A schema (Error e) h = h
schema_stops A schema OutOfMemory h = tt
