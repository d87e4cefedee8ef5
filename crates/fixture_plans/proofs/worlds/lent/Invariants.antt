use Rattle.std.proofs.Common.{◌≡◌, map, take}
use Rattle.fixture_plans.proofs.worlds.lent.Given as goal

abbrev pub invariant-loop-these : goal.invariant-loop-these
invariant-loop-these g l = map (λ xs. xs.now) l.all.items ≡ take l.these-index l.indexes
