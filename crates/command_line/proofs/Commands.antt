-- What building makes of a command.
use Rattle.std.proofs.Common.{◌≡◌, ◌∙◌, ◌||◌, ap₂, true, refl}
use Rattle.clap.specs.Words.{AddsArg, AddsSubcommand, App, Rule, Shape, app_of, is_simple, with_rule, with_subcommand}
use Rattle.clap.specs.declared.builder.Arg.{Arg}
use Rattle.clap.specs.declared.builder.Command.{Command}
use Rattle.command_line.specs.Building.{HasRule, HasShape, IsLocal}
use Rattle.command_line.specs.Program.{program}

module _ (old new : Command) (a : Arg) (r : Rule) (h : AddsArg old a new) (is : HasRule a r) where
  pub with_argument : (app : App) → app_of old ≡ app → app_of new ≡ with_rule app r
  with_argument app before = h.shape is.1 ∙ ap₂ with_rule before is.0

  pub stays_local : IsLocal old → IsLocal new
  stays_local before = h.globals ∙ ap₂ ◌||◌ before is.1

pub with_command : (old sub new : Command) (app : App) (s : Shape) → AddsSubcommand old sub new → HasShape sub s → app_of old ≡ app
    → app_of new ≡ with_subcommand app s
with_command old sub new app s h is before = h.shape is.1 ∙ ap₂ with_subcommand before is.0

pub program_is_simple : is_simple program ≡ true
unfolding program
program_is_simple = refl
