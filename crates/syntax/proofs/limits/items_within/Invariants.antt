use Rattle.std.proofs.Common.{◌≡◌, ◌+◌, map, take}
use Rattle.syntax.specs.Limits.{item_entries}
use Rattle.row_ast.specs.View.{from_item_of}
use Rattle.syntax.proofs.limits.items_within.Given as goal

abbrev pub invariant-loop-from_item : goal.invariant-loop-from_item
invariant-loop-from_item g l = l.left + item_entries (map (λ c. from_item_of c) (take l.from_item-index l.chains)) ≡ l.fn.room
