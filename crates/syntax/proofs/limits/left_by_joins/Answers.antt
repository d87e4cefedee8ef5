use Rattle.std.proofs.Common.{arith}
use Rattle.syntax.specs.Limits.{join_members}
use Rattle.row_ast.specs.View.{join_of}
use Rattle.syntax.proofs.Sums.{sum_next, room_left, room_passed}
use Rattle.syntax.proofs.limits.left_by_joins.Goals as goal

pub returns-in_err-left : goal.returns-in_err-left
returns-in_err-left g c =
    rw c.from_residual.ensures (λ fits.
    omega (arith, fits, room_passed join_members (λ j. join_of j) c.args.joins.now c.loop-join.join-index c.args.room c.loop-join.left c.join-item.result c.loop-join-test.true c.join-item.is c.loop-join.invariant (omega (arith, c.in_err-left.ensures))))

pub loop-join-preserved : goal.loop-join-preserved
loop-join-preserved g c =
    omega (arith, c.in_ok-left.ensures.1, c.in_ok-left.ensures.0, sum_next join_members (λ j. join_of j) c.args.joins.now c.loop-join.join-index c.join-item.result c.loop-join-test.true c.join-item.is)

pub returns : goal.returns
returns g c = room_left join_members (λ j. join_of j) c.args.joins.now c.loop-join.join-index c.args.room c.loop-join.left c.loop-join-test.false c.loop-join.invariant
