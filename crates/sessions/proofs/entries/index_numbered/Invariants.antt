use Rattle.std.proofs.Common.{◌≡◌, nat_eq, drop}
use Rattle.std.specs.List.{position_from}
use Rattle.sessions.proofs.entries.index_numbered.Given as goal

abbrev pub invariant-loop-i : goal.invariant-loop-i
invariant-loop-i g l = position_from (λ e. nat_eq l.number e.0) l.i (drop l.i l.entries) ≡ position_from (λ e. nat_eq l.number e.0) 0 l.entries
