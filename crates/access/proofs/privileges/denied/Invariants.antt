use Rattle.std.proofs.Common.{◌≡◌, drop, map}
use Rattle.access.specs.Access.{denial}
use Rattle.access.specs.View.{privilege_of}
use Rattle.access.proofs.privileges.denied.Given as goal

abbrev pub invariant-loop-privilege : goal.invariant-loop-privilege
invariant-loop-privilege g l = denial l.catalog l.role (map (λ p. privilege_of p) (drop l.privilege-index l.needed)) ≡ denial l.catalog l.role (map (λ p. privilege_of p) l.needed)
