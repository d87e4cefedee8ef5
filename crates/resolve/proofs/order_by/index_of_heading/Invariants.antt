use Rattle.std.proofs.Common.{◌≡◌, ◌++◌, drop, map}
use Rattle.std.specs.Prelude.{option_to_list}
use Rattle.expr.specs.View.{bound_item_of}
use Rattle.resolve.specs.OrderBy.{one_index, indexes_of}
use Rattle.resolve.proofs.order_by.index_of_heading.Given as goal

abbrev pub invariant-loop-index : goal.invariant-loop-index
invariant-loop-index g l = one_index l.offset (option_to_list l.found ++ indexes_of l.heading l.index (map (λ i. bound_item_of i) (drop l.index l.items))) ≡ one_index l.offset (indexes_of l.heading 0 (map (λ i. bound_item_of i) l.items))
