-- Requests as spec data, and the request that the matches of a command line say.
use Rattle.std.specs.Prelude.{ℕ, ◌==◌, Bool, false, if◌then◌else◌, List, [], ◌∷◌, Option, Some, None, option_and_then, option_map, is_none, codes, count_by, nat_lt}
use Rattle.std.specs.Option.{option_or, option_map_or}
use Rattle.std.specs.Str.{bytes_eq}
use Rattle.clap.specs.Words.{Row, Text, all_of, first_of, one_of}
use Rattle.command_line.specs.declared.arguments.Format.{Format}
use Rattle.command_line.specs.declared.arguments.Format.TheVariants as format
use Rattle.command_line.specs.declared.arguments.PlanFormat.{PlanFormat}
use Rattle.command_line.specs.declared.arguments.PlanFormat.TheVariants as plan_format

-- the text of a query, or the path of its file
pub data QueryText : Type 0 where
  Given : (text : Text) → QueryText
  File : (path : Text) → QueryText

-- the arguments of query and of explain
pub record QueryArguments : Type 0 where
  pub schema : Text
  pub dir : Text
  pub role : Text
  pub text : QueryText
  pub explain_refusal : Bool

pub record VerifyArguments : Type 0 where
  pub schema : Text
  pub role : Text
  pub plan : Text
  pub text : QueryText

pub record SessionArguments : Type 0 where
  pub schema : Text
  pub dir : Text
  pub script : Text
  pub frames : Bool

-- no role stands for all roles
pub record MatrixArguments : Type 0 where
  pub schema : Text
  pub dir : Text
  pub roles : List Text
  pub format : Format

-- the paths of the schemas before and after the change, and the pairs of a role and a table that may gain something
pub record ChangesArguments : Type 0 where
  pub before : Text
  pub after : Text
  pub dir : Text
  pub allowed : List (Text × Text)
  pub format : Format

pub data Request : Type 0 where
  Query : (query : QueryArguments) → (format : Format) → Request
  Explain : (query : QueryArguments) → (format : PlanFormat) → Request
  Verify : (audit : VerifyArguments) → Request
  Session : (session : SessionArguments) → Request
  Matrix : (matrix : MatrixArguments) → Request
  Changes : (changes : ChangesArguments) → Request
  Codes : Request

-- ---- from matches

infixl 10 ◌>>=◌
abbrev ◌>>=◌ : {A B : Type 0} → Option A → (A → Option B) → Option B
o >>= f = option_and_then f o

-- the flag is there: its value is `true`
abbrev pub is_set : Text → List Row → Bool
is_set name rows = option_map_or (λ text. bytes_eq text (codes "true")) (one_of name rows) false

-- the file, else the text
abbrev pub query_text : List Row → Option QueryText
query_text rows = option_or (option_map File (first_of (codes "file") rows)) (option_map Given (first_of (codes "TEXT") rows))

abbrev pub format_called : Text → Option Format
format_called name =
    if bytes_eq name (codes "csv") then Some format.Csv
    else if bytes_eq name (codes "table") then Some format.Table
    else None

-- comma-separated text where no format is named; no other name is one
abbrev pub format_of : List Row → Option Format
format_of rows = option_map_or format_called (first_of (codes "format") rows) (Some format.Csv)

abbrev pub plan_format_called : Text → Option PlanFormat
plan_format_called name =
    if bytes_eq name (codes "text") then Some plan_format.Text
    else if bytes_eq name (codes "tree") then Some plan_format.Tree
    else None

-- the text of a plan where no format is named
abbrev pub plan_format_of : List Row → Option PlanFormat
plan_format_of rows = option_map_or plan_format_called (first_of (codes "format") rows) (Some plan_format.Text)

-- all values of an argument
abbrev pub texts_of : Text → List Row → List Text
texts_of name rows = option_map_or (λ texts. texts) (all_of name rows) []

-- the bytes before the first colon, and those after it
abbrev pub pair_in : Text → Option (Text × Text)
pair_in [] = None
pair_in (b ∷ bs) = if b == 58 then Some ([], bs) else option_map (λ p. (b ∷ p.0, p.1)) (pair_in bs)

-- the pairs of all of the texts, each of which has to be one
abbrev pub pairs_in : List Text → Option (List (Text × Text))
pairs_in [] = Some []
pairs_in (text ∷ texts) = do
  pair ← pair_in text
  pairs ← pairs_in texts
  Some (pair ∷ pairs)

abbrev pub allowed_pairs : List Row → Option (List (Text × Text))
allowed_pairs rows = pairs_in (texts_of (codes "allow") rows)

abbrev pub query_arguments : List Row → Option QueryArguments
query_arguments rows = do
  schema ← first_of (codes "schema") rows
  dir ← first_of (codes "dir") rows
  role ← first_of (codes "role") rows
  text ← query_text rows
  Some (record { schema = schema; dir = dir; role = role; text = text; explain_refusal = is_set (codes "explain-refusal") rows })

abbrev pub query_asked : List Row → Option Request
query_asked rows = do
  query ← query_arguments rows
  format ← format_of rows
  Some (Query query format)

abbrev pub explain_asked : List Row → Option Request
explain_asked rows = do
  query ← query_arguments rows
  format ← plan_format_of rows
  Some (Explain query format)

abbrev pub verify_arguments : List Row → Option VerifyArguments
verify_arguments rows = do
  schema ← first_of (codes "schema") rows
  role ← first_of (codes "role") rows
  plan ← first_of (codes "plan") rows
  text ← query_text rows
  Some (record { schema = schema; role = role; plan = plan; text = text })

abbrev pub session_arguments : List Row → Option SessionArguments
session_arguments rows = do
  schema ← first_of (codes "schema") rows
  dir ← first_of (codes "dir") rows
  script ← first_of (codes "SCRIPT") rows
  Some (record { schema = schema; dir = dir; script = script; frames = is_set (codes "frames") rows })

abbrev pub matrix_with : List Text → List Row → Option MatrixArguments
matrix_with roles rows = do
  schema ← first_of (codes "schema") rows
  dir ← first_of (codes "dir") rows
  format ← format_of rows
  Some (record { schema = schema; dir = dir; roles = roles; format = format })

abbrev pub matrix_arguments : List Row → Option MatrixArguments
matrix_arguments rows = matrix_with (texts_of (codes "role") rows) rows

abbrev pub changes_with : List (Text × Text) → List Row → Option ChangesArguments
changes_with allowed rows = do
  before ← first_of (codes "schema") rows
  after ← first_of (codes "with") rows
  dir ← first_of (codes "dir") rows
  format ← format_of rows
  Some (record { before = before; after = after; dir = dir; allowed = allowed; format = format })

abbrev pub changes_arguments : List Row → Option ChangesArguments
changes_arguments rows = do
  allowed ← allowed_pairs rows
  changes_with allowed rows

abbrev pub plain_asked : Text → List Row → Option Request
plain_asked name rows =
    if bytes_eq name (codes "query") then query_asked rows
    else if bytes_eq name (codes "explain") then explain_asked rows
    else if bytes_eq name (codes "verify") then option_map Verify (verify_arguments rows)
    else if bytes_eq name (codes "session") then option_map Session (session_arguments rows)
    else if bytes_eq name (codes "codes") then Some Codes
    else None

-- the request of a subcommand with these matches, if nothing that it requires is missing
abbrev pub asked_of : Text → List Row → Option Request
asked_of name rows =
    if bytes_eq name (codes "matrix") then option_map Matrix (matrix_arguments rows)
    else if bytes_eq name (codes "changes") then option_map Changes (changes_arguments rows)
    else plain_asked name rows

-- the request of the subcommand that was met
abbrev pub asked : Option (Text × List Row) → Option Request
asked = option_and_then (λ met. asked_of met.0 met.1)

-- the matches of a subcommand have the name of no format of it
abbrev pub is_format_unknown_of : Text → List Row → Bool
is_format_unknown_of name rows = if bytes_eq name (codes "explain") then is_none (plan_format_of rows) else is_none (format_of rows)

-- the subcommand that was met has one
abbrev pub is_format_unknown : Option (Text × List Row) → Bool
is_format_unknown met = option_map_or (λ m. is_format_unknown_of m.0 m.1) met false

-- a pair that is allowed has no colon
abbrev pub is_pair_broken : Option (Text × List Row) → Bool
is_pair_broken met = option_map_or (λ m. is_none (allowed_pairs m.1)) met false

-- ---- standard input

abbrev pub path_of : QueryText → List Text
path_of (Given text) = []
path_of (File path) = path ∷ []

-- the paths of the texts that a request reads, apart from the files of the tables
abbrev pub paths_of : Request → List Text
paths_of (Query query format) = query.schema ∷ path_of query.text
paths_of (Explain query format) = query.schema ∷ path_of query.text
paths_of (Verify audit) = audit.schema ∷ audit.plan ∷ path_of audit.text
paths_of (Session session) = session.schema ∷ session.script ∷ []
paths_of (Matrix matrix) = matrix.schema ∷ []
paths_of (Changes changes) = changes.before ∷ changes.after ∷ []
paths_of Codes = []

-- `-` is standard input
abbrev pub is_input : Text → Bool
is_input path = bytes_eq path (codes "-")

abbrev pub reads_input_twice : Request → Bool
reads_input_twice request = nat_lt 1 (count_by is_input (paths_of request))
