-- Arguments and commands of clap as the descriptions of specs/Program.
use Rattle.std.specs.Prelude.{◌≡◌, false, List, map}
use Rattle.clap.specs.Words.{Rule, Shape, Text, rule_of, shape_of}
use Rattle.clap.specs.declared.builder.Arg.{Arg}
use Rattle.clap.specs.declared.builder.Command.{Command}
use Rattle.clap.specs.declared.builder.Command.TheViews.{out-Command as fields_of}

-- an argument of the command alone, of this rule
abbrev pub HasRule : Arg → Rule → Type 0
HasRule a r = (rule_of a ≡ r) × (a.global ≡ false)

-- no argument of the command is one of its subcommands too
abbrev pub IsLocal : Command → Type 0
IsLocal c = (fields_of c).has_globals ≡ false

abbrev pub HasShape : Command → Shape → Type 0
HasShape c s = (shape_of c ≡ s) × IsLocal c

-- the ids of the arguments that may not be there beside it
abbrev pub excluded_by : Arg → List Text
excluded_by a = map (λ id. id.now) a.conflicts.items

-- the ids of the arguments one of which takes its place, where it is required
abbrev pub replaced_by : Arg → List Text
replaced_by a = map (λ id. id.now) a.r_unless.items
