use Rattle.std.proofs.Common.{refl}
use Rattle.scope.proofs.Binds.{none_made}
use Rattle.scope.proofs.nodes.without_otherwise.Goals as goal

pub returns-in-Ok : goal.returns-in-Ok
returns-in-Ok g c = λ stated h. c.made.ensures _ (none_made c.args.offset c.in-Ok.arms stated (rw c.in-Ok.is at h) _ refl)
