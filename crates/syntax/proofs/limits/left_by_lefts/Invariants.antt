use Rattle.std.proofs.Common.{◌≡◌, ◌+◌, map, take}
use Rattle.syntax.specs.Limits.{left_members}
use Rattle.row_ast.specs.View.{left_join_of}
use Rattle.syntax.proofs.limits.left_by_lefts.Given as goal

abbrev pub invariant-loop-left_join : goal.invariant-loop-left_join
invariant-loop-left_join g l = l.left + left_members (map (λ j. left_join_of j) (take l.left_join-index l.lefts)) ≡ l.fn.room
