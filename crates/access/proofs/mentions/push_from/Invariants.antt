use Rattle.std.proofs.Common.{◌≡◌, ◌++◌, drop, map}
use Rattle.std.specs.Prelude.{option_map}
use Rattle.expr.specs.View.{bound_expr_of}
use Rattle.access.specs.Needed.{in_from}
use Rattle.access.proofs.mentions.push_from.Given as goal

abbrev pub invariant-loop-number : goal.invariant-loop-number
invariant-loop-number g l =
    l.mentions ++ in_from l.number (map (λ o. option_map (λ b. bound_expr_of b.value) o) (drop l.number l.ons)) ≡ l.fn.mentions ++ in_from 0 (map (λ o. option_map (λ b. bound_expr_of b.value) o) l.ons)
