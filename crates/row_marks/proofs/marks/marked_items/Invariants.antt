use Rattle.std.proofs.Common.{◌≡◌, map, take}
use Rattle.expr.specs.View.{bound_item_of}
use Rattle.tuples.specs.View.{world_of}
use Rattle.row_marks.specs.Marked.{computed_entry}
use Rattle.row_marks.specs.Marks.{AreMarked, seen_of}
use Rattle.row_marks.proofs.marks.marked_items.Given as goal

abbrev pub invariant-loop-item : goal.invariant-loop-item
invariant-loop-item g l = record {
  seen : map (λ m. seen_of m) l.marked.items ≡ map (λ i. ((bound_item_of i).value, computed_entry (world_of l.world) (bound_item_of i).value)) (take l.item-index l.items);
  marked : AreMarked (world_of l.world) l.marked.items;
}
