use Rattle.std.proofs.Common.{codes, refl}
use Rattle.clap.specs.Words.{found_of}
use Rattle.command_line.proofs.Getters.{given}
use Rattle.command_line.proofs.arguments.verify_arguments.Goals as goal

pub returns-in_err-schema : goal.returns-in_err-schema
returns-in_err-schema c =
    let f = found_of c.args.found.now in
    rw (given f (codes "schema") _ c.in_err-schema.ensures, c.from_residual.ensures) refl

pub returns-in_err-role : goal.returns-in_err-role
returns-in_err-role c =
    let f = found_of c.args.found.now in
    rw (given f (codes "schema") _ c.in_ok-schema.ensures, given f (codes "role") _ c.in_err-role.ensures, c.from_residual-in_err-role.ensures) refl

pub returns-in_err-plan : goal.returns-in_err-plan
returns-in_err-plan c =
    let f = found_of c.args.found.now in
    rw (given f (codes "schema") _ c.in_ok-schema.ensures, given f (codes "role") _ c.in_ok-role.ensures, given f (codes "plan") _ c.in_err-plan.ensures, c.from_residual-in_err-plan.ensures) refl

pub returns : goal.returns
returns c =
    let f = found_of c.args.found.now in
    rw (given f (codes "schema") _ c.in_ok-schema.ensures, given f (codes "role") _ c.in_ok-role.ensures, given f (codes "plan") _ c.in_ok-plan.ensures, ← c.in_ok-text.ensures) refl
