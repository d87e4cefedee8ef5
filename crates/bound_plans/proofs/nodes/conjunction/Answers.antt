use Rattle.bound_plans.proofs.Made.{and_made}
use Rattle.bound_plans.proofs.nodes.conjunction.Goals as goal

pub returns-in-Ok : goal.returns-in-Ok
returns-in-Ok g c = λ es h. and_made c.args.offset c.in-Ok.members es (rw c.in-Ok.is at h) c.boxed.result c.boxed.ensures
