use Rattle.std.proofs.Common.{ap, ◌∙◌}
use Rattle.tuples.specs.Guards as spec
use Rattle.access.proofs.Chosen.{and_made}
use Rattle.access.proofs.guards.conjunction.Goals as goal

pub of_movable-requires : goal.of_movable-requires
of_movable-requires g c = rw (and_made c.args.members c.in-Ok.whole.value c.in-Ok.ensures) c.requires

pub returns-in-Ok : goal.returns-in-Ok
returns-in-Ok g c = ap spec.Expr (c.of_movable.ensures ∙ and_made c.args.members c.in-Ok.whole.value c.in-Ok.ensures)
