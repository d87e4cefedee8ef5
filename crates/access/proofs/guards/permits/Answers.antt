use Rattle.std.proofs.Common.{refl}
use Rattle.access.proofs.guards.permits.Goals as goal

pub returns-then-not-policy : goal.returns-then-not-policy
returns-then-not-policy g c = rw c.if-not-policy.true c.applies.ensures

pub returns-else-not-policy : goal.returns-else-not-policy
returns-else-not-policy g c = rw c.if-not-policy.false refl
