use Rattle.std.proofs.Common.{arith}
use Rattle.row_ast.specs.View.{join_of}
use Rattle.resolve.specs.Entries.{joined_by}
use Rattle.resolve.specs.View.{joined_table_of}
use Rattle.memory.proofs.Lists.{map_next, map_over, pushed}
use Rattle.resolve.proofs.from.push_joins.Goals as goal

pub loop-join-preserved : goal.loop-join-preserved
loop-join-preserved g c =
    map_next (joined_by c.args.first) (λ j. join_of j) c.args.joins.now c.loop-join.join-index _ _ c.loop-join.invariant c.join-item.result c.loop-join-test.true c.join-item.is _
    (pushed (λ j. joined_table_of j) _ _ _ _ c.in_ok-push.ensures.ok c.joined_by.ensures)

pub returns : goal.returns
returns g c = map_over (joined_by c.args.first) (λ j. join_of j) c.args.joins.now c.loop-join.join-index _ _ c.loop-join.invariant (omega (arith, c.loop-join-test.false))
