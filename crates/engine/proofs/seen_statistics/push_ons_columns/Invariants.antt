use Rattle.std.proofs.Common.{◌≡◌, ◌++◌, drop, map}
use Rattle.std.specs.Prelude.{option_map}
use Rattle.std.specs.List.{flat_map}
use Rattle.expr.specs.NamedColumns.{condition_columns}
use Rattle.expr.specs.View.{bound_expr_of}
use Rattle.engine.proofs.seen_statistics.push_ons_columns.Given as goal

abbrev pub invariant-loop-on : goal.invariant-loop-on
invariant-loop-on g l =
    l.known ++ flat_map condition_columns (map (λ o. option_map (λ b. bound_expr_of b.value) o) (drop l.on-index l.ons))
    ≡ l.fn.known ++ flat_map condition_columns (map (λ o. option_map (λ b. bound_expr_of b.value) o) l.ons)
