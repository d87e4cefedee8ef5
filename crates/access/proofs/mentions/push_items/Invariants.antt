use Rattle.std.proofs.Common.{◌≡◌, ◌++◌, drop, map}
use Rattle.std.specs.List.{flat_map}
use Rattle.expr.specs.View.{bound_item_of}
use Rattle.access.specs.Needed.{in_item}
use Rattle.access.proofs.mentions.push_items.Given as goal

abbrev pub invariant-loop-item : goal.invariant-loop-item
invariant-loop-item g l = l.mentions ++ flat_map in_item (map (λ i. bound_item_of i) (drop l.item-index l.items)) ≡ l.fn.mentions ++ flat_map in_item (map (λ i. bound_item_of i) l.items)
