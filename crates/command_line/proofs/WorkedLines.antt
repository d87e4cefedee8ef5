-- The requests of worked lines, computed from the definitions.
use Rattle.std.proofs.Common.{◌≡◌, ◌++◌, true, false, refl, codes, List, [], ◌∷◌, Option, Some, None}
use Rattle.clap.specs.Words.{Text, subcommand_of}
use Rattle.clap.proofs.OnLiterals.{clap_on_literals}
use Rattle.command_line.specs.Program.{program}
use Rattle.command_line.specs.declared.arguments.Format.TheVariants.{Csv, Table}
use Rattle.command_line.specs.declared.arguments.PlanFormat.TheVariants as plan
use Rattle.command_line.specs.Requests.{Request, Query, Explain, Verify, Session, Matrix, Changes, Codes, Given, File, asked, reads_input_twice}

-- the request of the words after the program's name
abbrev said : List Text → Option Request
said words = asked (subcommand_of program (codes "rowplan" ∷ words))

abbrev options : List Text
options = codes "--schema" ∷ codes "s.sql" ∷ codes "--dir=d" ∷ codes "--role" ∷ codes "alice" ∷ []

given_text : said (codes "query" ∷ options ++ codes "SELECT 1" ∷ [])
    ≡ Some (Query (record { schema = codes "s.sql"; dir = codes "d"; role = codes "alice"; text = Given (codes "SELECT 1"); explain_refusal = false }) Csv)
unfolding program clap_on_literals
given_text = refl

rows_as_table : said (codes "query" ∷ codes "--format" ∷ codes "table" ∷ options ++ codes "SELECT 1" ∷ [])
    ≡ Some (Query (record { schema = codes "s.sql"; dir = codes "d"; role = codes "alice"; text = Given (codes "SELECT 1"); explain_refusal = false }) Table)
unfolding program clap_on_literals
rows_as_table = refl

no_such_format : said (codes "query" ∷ codes "--format=xml" ∷ options ++ codes "SELECT 1" ∷ []) ≡ None
unfolding program clap_on_literals
no_such_format = refl

text_of_file : said (codes "explain" ∷ codes "--file" ∷ codes "-" ∷ codes "--explain-refusal" ∷ options)
    ≡ Some (Explain (record { schema = codes "s.sql"; dir = codes "d"; role = codes "alice"; text = File (codes "-"); explain_refusal = true }) plan.Text)
unfolding program clap_on_literals
text_of_file = refl

text_after_dashes : said (codes "verify" ∷ codes "--plan" ∷ codes "p" ∷ codes "--schema=-" ∷ codes "--role" ∷ codes "alice" ∷ codes "--" ∷ codes "-q" ∷ [])
    ≡ Some (Verify (record { schema = codes "-"; role = codes "alice"; plan = codes "p"; text = Given (codes "-q") }))
unfolding program clap_on_literals
text_after_dashes = refl

script_with_frames : said (codes "session" ∷ codes "--schema" ∷ codes "s.sql" ∷ codes "--dir=d" ∷ codes "events" ∷ codes "--frames" ∷ [])
    ≡ Some (Session (record { schema = codes "s.sql"; dir = codes "d"; script = codes "events"; frames = true }))
unfolding program clap_on_literals
script_with_frames = refl

plan_as_tree : said (codes "explain" ∷ codes "--format=tree" ∷ options ++ codes "SELECT 1" ∷ [])
    ≡ Some (Explain (record { schema = codes "s.sql"; dir = codes "d"; role = codes "alice"; text = Given (codes "SELECT 1"); explain_refusal = false }) plan.Tree)
unfolding program clap_on_literals
plan_as_tree = refl

matrix_of_two : said (codes "matrix" ∷ codes "--schema" ∷ codes "s.sql" ∷ codes "--role" ∷ codes "alice" ∷ codes "--dir=d" ∷ codes "--role=bob" ∷ [])
    ≡ Some (Matrix (record { schema = codes "s.sql"; dir = codes "d"; roles = codes "alice" ∷ codes "bob" ∷ []; format = Csv }))
unfolding program clap_on_literals
matrix_of_two = refl

matrix_of_all : said (codes "matrix" ∷ codes "--schema" ∷ codes "s.sql" ∷ codes "--dir=d" ∷ codes "--format=table" ∷ [])
    ≡ Some (Matrix (record { schema = codes "s.sql"; dir = codes "d"; roles = []; format = Table }))
unfolding program clap_on_literals
matrix_of_all = refl

changes_with_allowed : said (codes "changes" ∷ codes "--schema" ∷ codes "a" ∷ codes "--with" ∷ codes "b" ∷ codes "--dir=d" ∷ codes "--allow" ∷ codes "bob:t:u" ∷ [])
    ≡ Some (Changes (record { before = codes "a"; after = codes "b"; dir = codes "d"; allowed = (codes "bob", codes "t:u") ∷ []; format = Csv }))
unfolding program clap_on_literals
changes_with_allowed = refl

no_pair : said (codes "changes" ∷ codes "--schema" ∷ codes "a" ∷ codes "--with" ∷ codes "b" ∷ codes "--dir=d" ∷ codes "--allow" ∷ codes "bob" ∷ []) ≡ None
unfolding program clap_on_literals
no_pair = refl

list_of_codes : said (codes "codes" ∷ []) ≡ Some Codes
unfolding program clap_on_literals
list_of_codes = refl

script_missing : said (codes "session" ∷ codes "--schema" ∷ codes "s.sql" ∷ codes "--dir=d" ∷ []) ≡ None
unfolding program clap_on_literals
script_missing = refl

-- `-` as the role, the folder or the text is no standard input
read_once : reads_input_twice (Query (record { schema = codes "-"; dir = codes "-"; role = codes "-"; text = Given (codes "-"); explain_refusal = false }) Csv) ≡ false
read_once = refl

read_twice : reads_input_twice (Verify (record { schema = codes "s.sql"; role = codes "r"; plan = codes "-"; text = File (codes "-") })) ≡ true
read_twice = refl

both_schemas : reads_input_twice (Changes (record { before = codes "-"; after = codes "-"; dir = codes "d"; allowed = []; format = Csv })) ≡ true
both_schemas = refl
