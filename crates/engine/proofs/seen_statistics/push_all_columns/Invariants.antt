use Rattle.std.proofs.Common.{◌≡◌, ◌++◌, drop, map}
use Rattle.std.specs.List.{flat_map}
use Rattle.expr.specs.Columns.{columns}
use Rattle.expr.specs.View.{bound_expr_of}
use Rattle.engine.proofs.seen_statistics.push_all_columns.Given as goal

abbrev pub invariant-loop-condition : goal.invariant-loop-condition
invariant-loop-condition g l =
    l.known ++ flat_map columns (map (λ e. bound_expr_of e.now) (drop l.condition-index l.conditions)) ≡ l.fn.known ++ flat_map columns (map (λ e. bound_expr_of e.now) l.conditions)
