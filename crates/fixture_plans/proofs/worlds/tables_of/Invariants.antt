use Rattle.std.proofs.Common.{◌≡◌, map, take}
use Rattle.tuples.specs.View.{guard_of}
use Rattle.fixture_plans.proofs.worlds.tables_of.Given as goal

abbrev pub invariant-loop-entry : goal.invariant-loop-entry
invariant-loop-entry g l = map (λ t. guard_of t.guard.now) l.tables.items ≡ map guard_of (take l.entry l.frame)
