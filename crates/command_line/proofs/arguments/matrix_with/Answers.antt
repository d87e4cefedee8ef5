use Rattle.std.proofs.Common.{codes, refl}
use Rattle.clap.specs.Words.{found_of}
use Rattle.command_line.proofs.Getters.{given}
use Rattle.command_line.proofs.arguments.matrix_with.Goals as goal

pub returns-in_err-schema : goal.returns-in_err-schema
returns-in_err-schema c =
    let f = found_of c.args.found.now in
    rw (given f (codes "schema") _ c.in_err-schema.ensures, c.from_residual.ensures) refl

pub returns-in_err-dir : goal.returns-in_err-dir
returns-in_err-dir c =
    let f = found_of c.args.found.now in
    rw (given f (codes "schema") _ c.in_ok-schema.ensures, given f (codes "dir") _ c.in_err-dir.ensures, c.from_residual-in_err-dir.ensures) refl

pub returns-in_err-format : goal.returns-in_err-format
returns-in_err-format c =
    let f = found_of c.args.found.now in
    rw (given f (codes "schema") _ c.in_ok-schema.ensures, given f (codes "dir") _ c.in_ok-dir.ensures, ← c.in_err-format.ensures, c.from_residual-in_err-format.ensures) refl

pub returns : goal.returns
returns c =
    let f = found_of c.args.found.now in
    rw (given f (codes "schema") _ c.in_ok-schema.ensures, given f (codes "dir") _ c.in_ok-dir.ensures, ← c.in_ok-format.ensures) refl
