use Rattle.std.proofs.Common.{◌≡◌, drop, map}
use Rattle.scope.specs.View.{entry_of}
use Rattle.typing.specs.Clauses.{mistyped_ons}
use Rattle.expr.specs.Offsets.{least_of}
use Rattle.typing.proofs.clauses.mistyped_ons.Given as goal

abbrev pub invariant-loop-number : goal.invariant-loop-number
invariant-loop-number g l = least_of l.known (mistyped_ons (map (λ e. entry_of e) l.entries) l.number (map (λ e. entry_of e) (drop l.number l.entries))) ≡ mistyped_ons (map (λ e. entry_of e) l.entries) 0 (map (λ e. entry_of e) l.entries)
