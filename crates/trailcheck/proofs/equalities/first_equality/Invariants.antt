use Rattle.std.proofs.Common.{◌≡◌, ◌+◌, ◌-◌}
use Rattle.trailcheck.specs.Equalities as spec
use Rattle.trailcheck.proofs.equalities.first_equality.Given as goal

abbrev pub invariant-loop-k : goal.invariant-loop-k
invariant-loop-k g l = spec.first_number (spec.is_equality l.entry l.on) (l.k + 1) (l.count - l.k) ≡ spec.first_equality l.entry l.on
