use Rattle.std.proofs.Common.{◌≡◌, drop, map}
use Rattle.scope.specs.View.{entry_of}
use Rattle.typing.specs.Clauses.{every_grouped}
use Rattle.typing.proofs.clauses.every_grouped.Given as goal

abbrev pub invariant-loop-number : goal.invariant-loop-number
invariant-loop-number g l = every_grouped l.group_by l.number (map (λ e. entry_of e) (drop l.number l.entries)) ≡ every_grouped l.group_by 0 (map (λ e. entry_of e) l.entries)
