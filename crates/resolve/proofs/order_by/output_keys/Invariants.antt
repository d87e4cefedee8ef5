use Rattle.std.proofs.Common.{◌≡◌, drop, map}
use Rattle.memory.specs.Results.{on_each}
use Rattle.scope.proofs.Found.{each_after}
use Rattle.row_ast.specs.View.{sort_key_of}
use Rattle.expr.specs.View.{bound_item_of}
use Rattle.resolve.specs.OrderBy.{output_key}
use Rattle.resolve.proofs.order_by.output_keys.Given as goal

abbrev pub invariant-loop-key : goal.invariant-loop-key
invariant-loop-key g l = each_after (output_key (map (λ i. bound_item_of i) l.items)) l.keys (map (λ k. sort_key_of k) (drop l.key-index l.order_by)) ≡ on_each (output_key (map (λ i. bound_item_of i) l.items)) (map (λ k. sort_key_of k) l.order_by)
