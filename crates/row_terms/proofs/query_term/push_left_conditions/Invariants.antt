use Rattle.std.proofs.Common.{◌≡◌, ◌++◌, drop, map}
use Rattle.std.specs.Prelude.{option_map}
use Rattle.std.specs.List.{flat_map}
use Rattle.expr.specs.View.{bound_expr_of}
use Rattle.row_terms.specs.Written.{left_condition_in}
use Rattle.row_terms.proofs.query_term.push_left_conditions.Given as goal

abbrev pub invariant-loop-condition : goal.invariant-loop-condition
invariant-loop-condition g l =
    l.known ++ flat_map left_condition_in (map (λ o. option_map (λ b. bound_expr_of b.value) o) (drop l.condition-index l.conditions))
    ≡ l.fn.known ++ flat_map left_condition_in (map (λ o. option_map (λ b. bound_expr_of b.value) o) l.conditions)
