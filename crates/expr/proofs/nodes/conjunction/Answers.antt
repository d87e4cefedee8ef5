use Rattle.expr.proofs.Copied.{and_copied}
use Rattle.expr.proofs.nodes.conjunction.Goals as goal

pub returns-in-Ok : goal.returns-in-Ok
returns-in-Ok g c = λ es h. and_copied c.args.offset c.in-Ok.members es (rw c.in-Ok.is at h) c.boxed.result c.boxed.ensures
