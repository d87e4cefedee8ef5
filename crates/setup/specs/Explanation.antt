-- The diagnostics on standard error of a text that is refused or denied.
use Rattle.std.specs.Prelude.{◌⊎◌, ℕ, List, [], ◌∷◌, ◌++◌, Option, Some, None}
use Rattle.std.specs.Io.KnownBytes.{Appends}
use Rattle.output.specs.Taken.{Begins}
use Rattle.value.specs.Names.{Name}
use Rattle.engine.specs.Catalog.{Catalog}
use Rattle.replies.specs.Reply.{Reply, Refused}
use Rattle.value.specs.declared.refusal.Refusal.TheVariants as code
use Rattle.diagnostics.specs.Diagnosis.{hint}
use Rattle.diagnostics.specs.Statements.{statement_hint}
use Rattle.setup.specs.declared.error.SchemaError.{SchemaError}
use Rattle.setup.specs.declared.error.SchemaError.TheVariants as errors
use Rattle.engine.specs.Analysis.{refusal_to}
use Rattle.setup.specs.Lines.{memory_line}

abbrev pub hint_for : List ℕ → Option Reply → List ℕ
hint_for text None = []
hint_for text (Some refusal) = hint text refusal

-- no row is an argument
abbrev pub explanation : Catalog → Name → List ℕ → List ℕ
explanation cat role text = hint_for text (refusal_to cat role text)

-- the same of the error of a schema text: a refused statement has the offset at which it begins
abbrev pub schema_explanation : List ℕ → SchemaError → List ℕ
schema_explanation text (errors.Syntax offset) = hint text (Refused code.SyntaxError (Some offset))
schema_explanation text errors.Limit = hint text (Refused code.ProgramLimitExceeded None)
schema_explanation text (errors.Statement number why) = statement_hint text number why

-- it went out, or memory ran out, and that did
abbrev pub IsExplained : Option (List ℕ) → Option (List ℕ) → List ℕ → Type 0
IsExplained before after lines = Appends before after lines ⊎ Appends before after (memory_line ++ 10 ∷ [])

-- the same where the writer failed: a beginning of the one or of the other went out
abbrev pub IsBegun : Option (List ℕ) → Option (List ℕ) → List ℕ → Type 0
IsBegun before after lines = Begins before after lines ⊎ Begins before after (memory_line ++ 10 ∷ [])
