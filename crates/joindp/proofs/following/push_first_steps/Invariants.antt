use Rattle.std.proofs.Common.{◌≡◌, ◌++◌, map, drop}
use Rattle.joindp.specs.Following as spec
use Rattle.joindp.proofs.following.push_first_steps.Given as goal

abbrev pub invariant-loop-access : goal.invariant-loop-access
invariant-loop-access g l = l.known ++ map (spec.first_step l.entry) (drop l.access-index l.accesses) ≡ l.fn.known ++ map (spec.first_step l.entry) l.accesses
