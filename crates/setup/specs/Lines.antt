-- The line on standard error for an error that stops the program, and its exit status.
use Rattle.std.specs.Prelude.{◌≡◌, ◌⊎◌, ℕ, List, [], ◌∷◌, ◌++◌, codes, Option}
use Rattle.std.specs.Fmt.{decimal}
use Rattle.std.specs.Io.KnownBytes.{Appends}
use Rattle.output.specs.Taken.{Begins}
use Rattle.value.specs.Codes.{code_of}
use Rattle.tables.specs.LoadErrors.{load_error_line}
use Rattle.memory.specs.declared.failure.Failure as memory
use Rattle.memory.specs.declared.failure.Failure.TheVariants as failure
use Rattle.setup.specs.declared.error.SchemaError.{SchemaError}
use Rattle.setup.specs.declared.error.SchemaError.TheVariants as schema
use Rattle.setup.specs.declared.error.SetupError.{SetupError}
use Rattle.setup.specs.declared.error.SetupError.TheVariants as fault

-- out of memory
abbrev pub memory_line : List ℕ
memory_line = codes "memory"

-- a syntax error at an offset in the schema text
abbrev pub syntax_line : ℕ → List ℕ
syntax_line offset = codes "schema refused 42601 at " ++ decimal offset

abbrev pub schema_line : SchemaError → List ℕ
schema_line (schema.Syntax offset) = syntax_line offset
schema_line schema.Limit = codes "schema refused 54000"
schema_line (schema.Statement number code) = codes "schema statement " ++ decimal number ++ codes " refused " ++ code_of code

abbrev pub error_line : {A : Type 0} → SetupError A → List ℕ
error_line (fault.Input path) = codes "input " ++ path
error_line (fault.Schema e) = schema_line e
error_line (fault.Data table column e) = load_error_line table column e

-- the line, without its end
abbrev pub failure_line : {A : Type 0} → memory.Failure (SetupError A) → List ℕ
failure_line (failure.Error f) = error_line f
failure_line failure.OutOfMemory = memory_line

-- 6 a refused schema or refused rows, 8 a file that cannot be read
abbrev pub error_status : {A : Type 0} → SetupError A → ℕ
error_status (fault.Input path) = 8
error_status (fault.Schema e) = 6
error_status (fault.Data table column e) = 6

-- the same, and 7 out of memory
abbrev pub failure_status : {A : Type 0} → memory.Failure (SetupError A) → ℕ
failure_status (failure.Error f) = error_status f
failure_status failure.OutOfMemory = 7

-- the line of a failure went out, and the status is its; or memory ran out, and that went out
abbrev pub IsReported : {A : Type 0} → Option (List ℕ) → Option (List ℕ) → memory.Failure (SetupError A) → ℕ → Type 0
IsReported before after f status =
    ((status ≡ failure_status f) × Appends before after (failure_line f ++ 10 ∷ []))
    ⊎ ((status ≡ 7) × Appends before after (memory_line ++ 10 ∷ []))

-- the same where the writer failed: a beginning of the one line or of the other went out
abbrev pub IsBegun : {A : Type 0} → Option (List ℕ) → Option (List ℕ) → memory.Failure (SetupError A) → ℕ → Type 0
IsBegun before after f status =
    ((status ≡ failure_status f) × Begins before after (failure_line f ++ 10 ∷ []))
    ⊎ ((status ≡ 7) × Begins before after (memory_line ++ 10 ∷ []))
