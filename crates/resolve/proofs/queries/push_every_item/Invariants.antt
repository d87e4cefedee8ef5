use Rattle.std.proofs.Common.{◌≡◌, ◌++◌, drop, map}
use Rattle.scope.specs.View.{entry_of}
use Rattle.resolve.specs.BoundQueries.{every_item}
use Rattle.expr.specs.View.{bound_item_of}
use Rattle.resolve.proofs.queries.push_every_item.Given as goal

abbrev pub invariant-loop-number : goal.invariant-loop-number
invariant-loop-number g l = map (λ i. bound_item_of i) l.items ++ every_item l.number (map (λ e. entry_of e) (drop l.number l.entries)) ≡ map (λ i. bound_item_of i) l.fn.items ++ every_item 0 (map (λ e. entry_of e) l.entries)
