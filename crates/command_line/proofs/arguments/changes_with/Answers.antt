use Rattle.std.proofs.Common.{codes, refl}
use Rattle.clap.specs.Words.{found_of}
use Rattle.command_line.proofs.Getters.{given}
use Rattle.command_line.proofs.arguments.changes_with.Goals as goal

pub returns-in_err-before : goal.returns-in_err-before
returns-in_err-before c =
    let f = found_of c.args.found.now in
    rw (given f (codes "schema") _ c.in_err-before.ensures, c.from_residual.ensures) refl

pub returns-in_err-after : goal.returns-in_err-after
returns-in_err-after c =
    let f = found_of c.args.found.now in
    rw (given f (codes "schema") _ c.in_ok-before.ensures, given f (codes "with") _ c.in_err-after.ensures, c.from_residual-in_err-after.ensures) refl

pub returns-in_err-dir : goal.returns-in_err-dir
returns-in_err-dir c =
    let f = found_of c.args.found.now in
    rw (given f (codes "schema") _ c.in_ok-before.ensures, given f (codes "with") _ c.in_ok-after.ensures, given f (codes "dir") _ c.in_err-dir.ensures, c.from_residual-in_err-dir.ensures) refl

pub returns-in_err-format : goal.returns-in_err-format
returns-in_err-format c =
    let f = found_of c.args.found.now in
    rw (given f (codes "schema") _ c.in_ok-before.ensures, given f (codes "with") _ c.in_ok-after.ensures, given f (codes "dir") _ c.in_ok-dir.ensures, ← c.in_err-format.ensures, c.from_residual-in_err-format.ensures) refl

pub returns : goal.returns
returns c =
    let f = found_of c.args.found.now in
    rw (given f (codes "schema") _ c.in_ok-before.ensures, given f (codes "with") _ c.in_ok-after.ensures, given f (codes "dir") _ c.in_ok-dir.ensures, ← c.in_ok-format.ensures) refl
