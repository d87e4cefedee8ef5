use Rattle.std.proofs.Common.{◌≡◌, drop, map}
use Rattle.memory.specs.Results.{on_each}
use Rattle.scope.proofs.Found.{each_after}
use Rattle.scope.specs.View.{entry_of}
use Rattle.row_ast.specs.View.{select_item_of}
use Rattle.resolve.specs.BoundQueries.{bound_item}
use Rattle.expr.specs.View.{bound_item_of}
use Rattle.resolve.proofs.queries.bind_items.Given as goal

abbrev pub invariant-loop-item : goal.invariant-loop-item
invariant-loop-item g l = each_after (bound_item (map (λ e. entry_of e) l.entries) l.scope) (map (λ i. bound_item_of i) l.all) (map (λ i. select_item_of i) (drop l.item-index l.items)) ≡ on_each (bound_item (map (λ e. entry_of e) l.entries) l.scope) (map (λ i. select_item_of i) l.items)
