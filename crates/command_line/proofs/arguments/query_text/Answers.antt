use Rattle.std.proofs.Common.{codes, refl}
use Rattle.clap.specs.Words.{found_of}
use Rattle.command_line.proofs.Getters.{given}
use Rattle.command_line.proofs.arguments.query_text.Goals as goal

pub returns-in_err-get_str-in-None : goal.returns-in_err-get_str-in-None
returns-in_err-get_str-in-None c =
    let f = found_of c.args.found.now in
    rw (given f (codes "file") _ c.in-None.ensures, given f (codes "TEXT") _ c.in_err-get_str-in-None.ensures, c.from_residual.ensures) refl

pub returns-in-Some : goal.returns-in-Some
returns-in-Some c = rw (given (found_of c.args.found.now) (codes "file") _ c.in-Some.ensures) refl

pub returns-in_ok-get_str-in-None : goal.returns-in_ok-get_str-in-None
returns-in_ok-get_str-in-None c =
    let f = found_of c.args.found.now in
    rw (given f (codes "file") _ c.in-None.ensures, given f (codes "TEXT") _ c.in_ok-get_str-in-None.ensures) refl
