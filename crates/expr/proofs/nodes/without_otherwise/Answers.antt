use Rattle.expr.proofs.Copied.{none_copied}
use Rattle.expr.proofs.nodes.without_otherwise.Goals as goal

pub returns-in-Ok : goal.returns-in-Ok
returns-in-Ok g c = λ as_ h. none_copied c.args.offset c.in-Ok.arms as_ (rw c.in-Ok.is at h) c.boxed.result c.boxed.ensures
