use Rattle.std.proofs.Common.{codes, refl}
use Rattle.clap.specs.Words.{found_of}
use Rattle.command_line.proofs.Getters.{given}
use Rattle.command_line.proofs.arguments.query_arguments.Goals as goal

pub returns-in_err-schema : goal.returns-in_err-schema
returns-in_err-schema c =
    let f = found_of c.args.found.now in
    rw (given f (codes "schema") _ c.in_err-schema.ensures, c.from_residual.ensures) refl

pub returns-in_err-dir : goal.returns-in_err-dir
returns-in_err-dir c =
    let f = found_of c.args.found.now in
    rw (given f (codes "schema") _ c.in_ok-schema.ensures, given f (codes "dir") _ c.in_err-dir.ensures, c.from_residual-in_err-dir.ensures) refl

pub returns-in_err-role : goal.returns-in_err-role
returns-in_err-role c =
    let f = found_of c.args.found.now in
    rw (given f (codes "schema") _ c.in_ok-schema.ensures, given f (codes "dir") _ c.in_ok-dir.ensures, given f (codes "role") _ c.in_err-role.ensures, c.from_residual-in_err-role.ensures) refl

pub returns : goal.returns
returns c =
    let f = found_of c.args.found.now in
    rw (given f (codes "schema") _ c.in_ok-schema.ensures, given f (codes "dir") _ c.in_ok-dir.ensures, given f (codes "role") _ c.in_ok-role.ensures, ← c.in_ok-text.ensures, c.is_set.ensures) refl
