use Rattle.std.proofs.Common.{◌≡◌, drop, false, map}
use Rattle.scope.specs.View.{entry_of}
use Rattle.typing.specs.Clauses.{misplaced_condition, misplaced_ons}
use Rattle.expr.proofs.Leasts.{least_after}
use Rattle.typing.proofs.clauses.misplaced_ons.Given as goal

abbrev pub invariant-loop-entry : goal.invariant-loop-entry
invariant-loop-entry g l =
    least_after (λ e. misplaced_condition (map (λ e. entry_of e) l.entries) l.group_by false e.on) l.known (map (λ e. entry_of e) (drop l.entry-index l.entries))
    ≡ misplaced_ons (map (λ e. entry_of e) l.entries) l.group_by
