use Rattle.std.proofs.Common.{◌≡◌, ◌++◌, drop, map}
use Rattle.std.specs.List.{flat_map}
use Rattle.expr.specs.View.{aggregate_calls_of, bound_item_of}
use Rattle.row_marks.specs.Calls.{item_aggregates}
use Rattle.row_marks.proofs.calls.push_item_aggregates.Given as goal

abbrev pub invariant-loop-item : goal.invariant-loop-item
invariant-loop-item g l = aggregate_calls_of l.calls ++ flat_map item_aggregates (map (λ i. bound_item_of i) (drop l.item-index l.items)) ≡ aggregate_calls_of l.fn.calls ++ flat_map item_aggregates (map (λ i. bound_item_of i) l.items)
