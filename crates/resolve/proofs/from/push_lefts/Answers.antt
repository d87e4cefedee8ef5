use Rattle.std.proofs.Common.{arith}
use Rattle.row_ast.specs.View.{left_join_of}
use Rattle.resolve.specs.Entries.{left_table}
use Rattle.resolve.specs.View.{joined_table_of}
use Rattle.memory.proofs.Lists.{map_next, map_over, pushed}
use Rattle.resolve.proofs.from.push_lefts.Goals as goal

pub loop-left_join-preserved : goal.loop-left_join-preserved
loop-left_join-preserved g c =
    map_next (left_table c.args.first) (λ j. left_join_of j) c.args.lefts.now c.loop-left_join.left_join-index _ _ c.loop-left_join.invariant c.left_join-item.result c.loop-left_join-test.true c.left_join-item.is _
    (pushed (λ j. joined_table_of j) _ _ _ _ c.in_ok-push.ensures.ok c.left_table.ensures)

pub returns : goal.returns
returns g c = map_over (left_table c.args.first) (λ j. left_join_of j) c.args.lefts.now c.loop-left_join.left_join-index _ _ c.loop-left_join.invariant (omega (arith, c.loop-left_join-test.false))
