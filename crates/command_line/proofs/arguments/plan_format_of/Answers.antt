use Rattle.std.proofs.Common.{codes, refl}
use Rattle.clap.specs.Words.{found_of}
use Rattle.command_line.proofs.Getters.{given}
use Rattle.command_line.proofs.arguments.plan_format_of.Goals as goal

pub returns-in-Some : goal.returns-in-Some
returns-in-Some c = rw (given (found_of c.args.found.now) (codes "format") _ c.in-Some.ensures) c.plan_format_called.ensures

pub returns-in-None : goal.returns-in-None
returns-in-None c = rw (given (found_of c.args.found.now) (codes "format") _ c.in-None.ensures) refl
