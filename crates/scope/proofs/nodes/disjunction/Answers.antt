use Rattle.std.proofs.Common.{refl}
use Rattle.scope.proofs.Binds.{or_made}
use Rattle.scope.proofs.nodes.disjunction.Goals as goal

pub returns-in-Ok : goal.returns-in-Ok
returns-in-Ok g c = λ stated h. c.made.ensures _ (or_made c.args.offset c.in-Ok.members stated (rw c.in-Ok.is at h) _ refl)
