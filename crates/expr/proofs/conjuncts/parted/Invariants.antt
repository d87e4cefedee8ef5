use Rattle.std.proofs.Common.{◌≡◌, ◌++◌, drop, map}
use Rattle.std.specs.Prelude.{filter}
use Rattle.expr.specs.View.{bound_expr_of}
use Rattle.expr.specs.Conjuncts.{is_in_part}
use Rattle.expr.proofs.conjuncts.parted.Given as goal

abbrev pub invariant-loop-conjunct : goal.invariant-loop-conjunct
invariant-loop-conjunct g l =
    map (λ e. bound_expr_of e.now) l.part.items ++ filter (is_in_part l.cannot_fault) (map (λ e. bound_expr_of e.now) (drop l.conjunct-index l.conjuncts)) ≡ filter (is_in_part l.cannot_fault) (map (λ e. bound_expr_of e.now) l.conjuncts)
