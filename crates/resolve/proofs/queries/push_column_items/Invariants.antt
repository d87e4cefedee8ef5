use Rattle.std.proofs.Common.{◌≡◌, ◌++◌, drop, map}
use Rattle.value.specs.Columns.{column_of}
use Rattle.resolve.specs.BoundQueries.{column_items}
use Rattle.expr.specs.View.{bound_item_of}
use Rattle.resolve.proofs.queries.push_column_items.Given as goal

abbrev pub invariant-loop-index : goal.invariant-loop-index
invariant-loop-index g l = map (λ i. bound_item_of i) l.items ++ column_items l.entry l.index (map (λ c. column_of c) (drop l.index l.columns)) ≡ map (λ i. bound_item_of i) l.fn.items ++ column_items l.entry 0 (map (λ c. column_of c) l.columns)
