use Rattle.std.proofs.Common.{◌≡◌, drop, map}
use Rattle.memory.proofs.Each.{after}
use Rattle.scope.specs.View.{entry_of}
use Rattle.std.specs.Prelude.{option_map}
use Rattle.expr.specs.View.{bound_expr_of}
use Rattle.resolve.specs.BoundQueries.{bound_ons}
use Rattle.resolve.proofs.queries.bind_ons.Given as goal

abbrev pub invariant-loop-number : goal.invariant-loop-number
invariant-loop-number g l =
    after (map (λ o. option_map (λ b. bound_expr_of b.value) o) l.ons) (bound_ons (map (λ e. entry_of e) l.entries) l.number (map (λ e. entry_of e) (drop l.number l.entries))) ≡ bound_ons (map (λ e. entry_of e) l.entries) 0 (map (λ e. entry_of e) l.entries)
