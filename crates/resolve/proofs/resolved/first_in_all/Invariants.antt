use Rattle.std.proofs.Common.{◌≡◌, drop, map}
use Rattle.std.specs.Prelude.{option_map}
use Rattle.expr.specs.View.{bound_expr_of}
use Rattle.expr.specs.Offsets.{least_of_all}
use Rattle.expr.proofs.Leasts.{least_after}
use Rattle.resolve.specs.Resolved.{first_in}
use Rattle.resolve.proofs.resolved.first_in_all.Given as goal

abbrev pub invariant-loop-condition : goal.invariant-loop-condition
invariant-loop-condition g l =
    least_after first_in l.known (map (λ o. option_map (λ b. bound_expr_of b.value) o) (drop l.condition-index l.conditions))
    ≡ least_of_all (map first_in (map (λ o. option_map (λ b. bound_expr_of b.value) o) l.conditions))
