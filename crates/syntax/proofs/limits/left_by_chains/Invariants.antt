use Rattle.std.proofs.Common.{◌≡◌, ◌+◌, map, take}
use Rattle.syntax.specs.Limits.{from_members}
use Rattle.row_ast.specs.View.{from_item_of}
use Rattle.syntax.proofs.limits.left_by_chains.Given as goal

abbrev pub invariant-loop-from_item : goal.invariant-loop-from_item
invariant-loop-from_item g l = l.left + from_members (map (λ c. from_item_of c) (take l.from_item-index l.chains)) ≡ l.fn.room
