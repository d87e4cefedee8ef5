use Rattle.std.proofs.Common.{◌≡◌, ◌+◌, map, take}
use Rattle.std.specs.List.{sum}
use Rattle.syntax.specs.Limits.{join_members}
use Rattle.row_ast.specs.View.{join_of}
use Rattle.syntax.proofs.limits.left_by_joins.Given as goal

abbrev pub invariant-loop-join : goal.invariant-loop-join
invariant-loop-join g l = l.left + sum (map join_members (map (λ j. join_of j) (take l.join-index l.joins))) ≡ l.fn.room
