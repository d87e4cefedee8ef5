use Rattle.std.proofs.lemmas.Result.{IfOk-weaker}
use Rattle.access.proofs.Chosen.{or_made}
use Rattle.access.proofs.guards.disjunction.Goals as goal

pub returns : goal.returns
returns g c = IfOk-weaker c.boxed.result _ _ (λ b is. or_made c.args.members b.value is) c.boxed.ensures
