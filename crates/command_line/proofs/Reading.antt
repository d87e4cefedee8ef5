-- The request of the matches is the one that the words say.
use Rattle.std.proofs.Common.{◌≡◌, ◌∙◌, List, ap, sym, Option, Some, option_map}
use Rattle.clap.specs.Words.{App, HasMatchesOf, Text, is_simple, subcommand_of, subcommand_rows_of}
use Rattle.clap.specs.declared.parser.ArgMatches.{ArgMatches}
use Rattle.command_line.specs.Program.{program}
use Rattle.command_line.specs.Requests.{asked}
use Rattle.command_line.specs.View.{request_of}
use Rattle.command_line.specs.declared.arguments.Request.{Request}
use Rattle.command_line.proofs.Commands.{program_is_simple}

pub read : (found : Option Request) (r : Request) (m : ArgMatches) (app : App) (words : List Text) → found ≡ Some r
    → option_map request_of found ≡ asked (subcommand_rows_of m) → HasMatchesOf app words m → app ≡ program
    → asked (subcommand_of program words) ≡ Some (request_of r)
read found r m app words one same matches is =
    ap (λ a. asked (subcommand_of a words)) (sym is) ∙ ap asked (sym (matches (ap is_simple is ∙ program_is_simple)).1)
    ∙ sym same ∙ ap (option_map request_of) one
