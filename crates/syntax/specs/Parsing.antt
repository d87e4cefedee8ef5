-- The query, the schema or the statement of a text, or its first error.
use Rattle.std.specs.Prelude.{◌≡◌, ◌⊎◌, ◌-◌, ◌<◌, ◌≤◌, ℕ, nat_lt, true, false, List, [], ◌∷◌, length, drop, ⊤, Result, Ok, Err, if◌then◌else◌}
use Rattle.memory.specs.declared.failure.Failure.{Failure}
use Rattle.memory.specs.declared.failure.Failure.TheVariants.{Error, OutOfMemory}
use Rattle.row_grammar.specs.declared.error.ReadError.{ReadError}
use Rattle.row_grammar.specs.declared.error.ReadError.TheVariants as reading
use Rattle.row_grammar.specs.Limits.{Derives as DerivesWithin, IsLongest, IsPassed, whole_at}
use Rattle.row_tokens.specs.Tokens.{Token, words}
use Rattle.row_ast.specs.Ast.{Query}
use Rattle.row_ast.specs.Statements.{Statement}
use Rattle.row_reader.specs.Language.{Rule}
use Rattle.row_reader.specs.Expressions.{grammar, run_limit, depth_limit}
use Rattle.row_queries.specs.Queries.{query}
use Rattle.syntax.specs.Limits.{within_limits}
use Rattle.row_statements.specs.Schemas.{schema, statement}
use Rattle.syntax.specs.declared.error.ParseError.{ParseError}
use Rattle.syntax.specs.declared.error.ParseError.TheVariants as errors

-- ---- by derivations and viable prefixes

-- the rule derives the text, with this tree
abbrev pub Derives : {A : Type 0} → Rule A → List ℕ → A → Type 0
Derives f text t = DerivesWithin grammar run_limit depth_limit f (words text) t []

abbrev pub at_of : ℕ → List Token → ℕ
at_of end [] = end
at_of end (w ∷ ws) = w.at

-- the offset of the nth token from the end; the end of the text for none
abbrev pub offset_of : List ℕ → ℕ → ℕ
offset_of text n = at_of (length text) (drop (length (words text) - n) (words text))

-- the grammar goes on up to this offset and no further, under any limits
abbrev pub StopsAt : {A : Type 0} → Rule A → List ℕ → ℕ → Type 0
StopsAt f text at = (n : ℕ) × IsLongest grammar run_limit depth_limit f (words text) n × (at ≡ offset_of text n)

-- the grammar goes on, but not within its limits
abbrev pub PassesLimit : {A : Type 0} → Rule A → List ℕ → Type 0
PassesLimit f text = (n : ℕ) × IsPassed grammar run_limit depth_limit f (words text) n

-- a query's text, or that of a statement alone, has at most 65,536 bytes, a schema's 1,048,576
abbrev pub query_bytes : ℕ
query_bytes = 65536

abbrev pub statement_bytes : ℕ
statement_bytes = 65536

abbrev pub schema_bytes : ℕ
schema_bytes = 1048576

-- the query is within the limits on its parts
abbrev pub IsSmall : Query → Type 0
IsSmall q = within_limits q ≡ true

-- the error of a text that is no query: the offset of the first token that cannot continue one, or a limit
abbrev pub RefusesQuery : List ℕ → Failure ParseError → Type 0
RefusesQuery text OutOfMemory = ⊤
RefusesQuery text (Error (errors.Syntax at)) = StopsAt query text at × (length text ≤ query_bytes) × ((q : Query) → Derives query text q → ⊥)
RefusesQuery text (Error errors.Limit) = (query_bytes < length text) ⊎ (PassesLimit query text ⊎ ((q : Query) × Derives query text q × (within_limits q ≡ false)))

-- the same of a text that has no further limits
abbrev pub Refuses : {A : Type 0} → ℕ → Rule A → List ℕ → Failure ParseError → Type 0
Refuses most f text OutOfMemory = ⊤
Refuses {A = A} most f text (Error (errors.Syntax at)) = StopsAt f text at × (length text ≤ most) × ((t : A) → Derives f text t → ⊥)
Refuses most f text (Error errors.Limit) = (most < length text) ⊎ PassesLimit f text

abbrev pub RefusesSchema : List ℕ → Failure ParseError → Type 0
RefusesSchema text e = Refuses schema_bytes schema text e

abbrev pub RefusesStatement : List ℕ → Failure ParseError → Type 0
RefusesStatement text e = Refuses statement_bytes statement text e

-- ---- as a function

-- the error of reading, at an offset in the text
abbrev pub fault_of : List ℕ → ReadError → ParseError
fault_of text (reading.Syntax n) = errors.Syntax (offset_of text n)
fault_of text (reading.Limit n) = errors.Limit

abbrev pub of_text : {A : Type 0} → List ℕ → Result A ReadError → Result A ParseError
of_text text (Ok t) = Ok t
of_text text (Err e) = Err (fault_of text e)

-- the reading of a text that is not too long, by one token ahead
abbrev pub read_within : {A : Type 0} → ℕ → Rule A → List ℕ → Result A ParseError
read_within most f text = if nat_lt most (length text) then Err errors.Limit else of_text text (whole_at grammar run_limit depth_limit f (words text))

abbrev pub of_size : Result Query ParseError → Result Query ParseError
of_size (Err e) = Err e
of_size (Ok q) = if within_limits q then Ok q else Err errors.Limit

-- the query of a text, or its first error
unfoldable pub parsed_query : List ℕ → Result Query ParseError
parsed_query text = of_size (read_within query_bytes query text)

-- the statements of a schema text, or its first error
unfoldable pub parsed_schema : List ℕ → Result (List Statement) ParseError
parsed_schema text = read_within schema_bytes schema text

-- the statement of a text, or its first error
unfoldable pub parsed_statement : List ℕ → Result Statement ParseError
parsed_statement text = read_within statement_bytes statement text

-- A function of a text is determined by derivations and viable prefixes.
pub record IsDetermined {A : Type 0} (f : Rule A) (most : ℕ) (fits : A → Type 0) (parsed : List ℕ → Result A ParseError) : Type 0 where
  pub found : (text : List ℕ) (t : A) → parsed text ≡ Ok t → Derives f text t × (length text ≤ most) × fits t
  pub only : (text : List ℕ) (t : A) → Derives f text t → length text ≤ most → fits t → parsed text ≡ Ok t
  pub stops : (text : List ℕ) (at : ℕ) → parsed text ≡ Err (errors.Syntax at) → StopsAt f text at × (length text ≤ most) × ((t : A) → Derives f text t → ⊥)
  pub limits : (text : List ℕ) → parsed text ≡ Err errors.Limit → (most < length text) ⊎ (PassesLimit f text ⊎ ((t : A) × Derives f text t × (fits t → ⊥)))
  -- a text has at most one tree
  pub one_tree : (text : List ℕ) (t t' : A) → Derives f text t → Derives f text t' → t ≡ t'

-- every tree, where there are no further limits
abbrev pub Fits : {A : Type 0} → A → Type 0
Fits t = Unit {0}
