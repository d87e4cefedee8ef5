use Rattle.std.proofs.Common.{◌≡◌, drop}
use Rattle.std.specs.Str.{bytes_eq}
use Rattle.std.specs.List.{position_from}
use Rattle.sessions.proofs.entries.index_named.Given as goal

abbrev pub invariant-loop-i : goal.invariant-loop-i
invariant-loop-i g l = position_from (λ e. bytes_eq l.name e.0) l.i (drop l.i l.entries) ≡ position_from (λ e. bytes_eq l.name e.0) 0 l.entries
