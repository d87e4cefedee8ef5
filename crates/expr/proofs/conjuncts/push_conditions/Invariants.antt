use Rattle.std.proofs.Common.{◌≡◌, ◌++◌, drop, map}
use Rattle.std.specs.Prelude.{option_map}
use Rattle.std.specs.List.{flat_map}
use Rattle.expr.specs.View.{bound_expr_of}
use Rattle.expr.specs.Conjuncts.{conjuncts_in}
use Rattle.expr.proofs.conjuncts.push_conditions.Given as goal

abbrev pub invariant-loop-condition : goal.invariant-loop-condition
invariant-loop-condition g l =
    map (λ e. bound_expr_of e.now) l.known.items ++ flat_map conjuncts_in (map (λ o. option_map (λ b. bound_expr_of b.value) o) (drop l.condition-index l.conditions))
    ≡ map (λ e. bound_expr_of e.now) l.fn.known.items ++ flat_map conjuncts_in (map (λ o. option_map (λ b. bound_expr_of b.value) o) l.conditions)
