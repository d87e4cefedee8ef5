-- The program's command as clap's data: its subcommands, and the options and words of each.
use Rattle.std.specs.Prelude.{true, false, List, [], ◌∷◌, ◌++◌, Some, codes}
use Rattle.clap.specs.Words.{App, Rule, Shape, Text, new_rule}
use Rattle.clap.specs.Simple.{new_shape}
use Rattle.clap.specs.declared.builder.ArgAction.TheVariants.{Append, Set, SetTrue}

-- ---- arguments

-- `--NAME VALUE`
abbrev pub option : Text → Rule
option name = record (new_rule name) { long = Some name; action = Some Set; value_names = 1 }

-- `--NAME`
abbrev pub flag : Text → Rule
flag name = record (new_rule name) { long = Some name; action = Some SetTrue }

-- a word by its position
abbrev pub word : Text → Rule
word name = record (new_rule name) { action = Some Set }

abbrev pub required_option : Text → Rule
required_option name = record (option name) { required = true }

-- it may be there several times, each time with one value
abbrev pub repeated_option : Text → Rule
repeated_option name = record (option name) { action = Some Append }

abbrev pub required_word : Text → Rule
required_word name = record (word name) { required = true }

-- an argument with a rule on another: the file and the text exclude each other, and one of them is required
abbrev pub alternative : Rule → Rule
alternative r = record r { is_free = false }

-- ---- subcommands

abbrev pub subcommand : Text → List Rule → Shape
subcommand name rules = record (new_shape name) { rules = rules }

-- the arguments of query and of explain
abbrev pub query_rules : List Rule
query_rules =
    required_option (codes "schema") ∷ required_option (codes "dir") ∷ required_option (codes "role")
    ∷ alternative (option (codes "file")) ∷ flag (codes "explain-refusal") ∷ alternative (word (codes "TEXT")) ∷ []

abbrev pub verify_rules : List Rule
verify_rules =
    required_option (codes "schema") ∷ required_option (codes "role") ∷ required_option (codes "plan")
    ∷ alternative (option (codes "file")) ∷ alternative (word (codes "TEXT")) ∷ []

abbrev pub session_rules : List Rule
session_rules =
    required_option (codes "schema") ∷ required_option (codes "dir") ∷ flag (codes "frames") ∷ required_word (codes "SCRIPT") ∷ []

abbrev pub matrix_rules : List Rule
matrix_rules =
    required_option (codes "schema") ∷ required_option (codes "dir") ∷ repeated_option (codes "role") ∷ option (codes "format") ∷ []

abbrev pub changes_rules : List Rule
changes_rules =
    required_option (codes "schema") ∷ required_option (codes "with") ∷ required_option (codes "dir")
    ∷ repeated_option (codes "allow") ∷ option (codes "format") ∷ []

abbrev pub query_shape : Shape
query_shape = subcommand (codes "query") (query_rules ++ option (codes "format") ∷ [])

abbrev pub explain_shape : Shape
explain_shape = subcommand (codes "explain") (query_rules ++ option (codes "format") ∷ [])

abbrev pub verify_shape : Shape
verify_shape = subcommand (codes "verify") verify_rules

abbrev pub session_shape : Shape
session_shape = subcommand (codes "session") session_rules

abbrev pub matrix_shape : Shape
matrix_shape = subcommand (codes "matrix") matrix_rules

abbrev pub changes_shape : Shape
changes_shape = subcommand (codes "changes") changes_rules

abbrev pub codes_shape : Shape
codes_shape = subcommand (codes "codes") []

-- ---- the program

-- it has a version, and a subcommand is required
abbrev pub top_shape : Shape
top_shape = record (new_shape (codes "rowplan")) { has_version = true; subcommand_required = true; is_leaf = false }

unfoldable pub program : App
program = record { top = top_shape; subs = query_shape ∷ explain_shape ∷ verify_shape ∷ session_shape ∷ matrix_shape ∷ changes_shape ∷ codes_shape ∷ [] }
