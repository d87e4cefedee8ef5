use Rattle.bound_plans.proofs.Made.{some_made}
use Rattle.bound_plans.proofs.nodes.with_otherwise.Goals as goal

pub returns-in-Ok-otherwise : goal.returns-in-Ok-otherwise
returns-in-Ok-otherwise g c = λ as_ e h i. some_made c.args.offset c.in-Ok.arms as_ (rw c.in-Ok.is at h) c.boxed.result c.in-Ok-otherwise.value e (rw c.in-Ok-otherwise.is at i) c.boxed.ensures
