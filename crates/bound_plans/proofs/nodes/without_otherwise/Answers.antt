use Rattle.bound_plans.proofs.Made.{none_made}
use Rattle.bound_plans.proofs.nodes.without_otherwise.Goals as goal

pub returns-in-Ok : goal.returns-in-Ok
returns-in-Ok g c = λ as_ h. none_made c.args.offset c.in-Ok.arms as_ (rw c.in-Ok.is at h) c.boxed.result c.boxed.ensures
