use Rattle.std.proofs.Common.{arith}
use Rattle.syntax.specs.Limits.{members}
use Rattle.row_ast.specs.Ast.{LeftJoin}
use Rattle.row_ast.specs.View.{left_join_of}
use Rattle.syntax.proofs.Sums.{sum_next, room_left, room_passed}
use Rattle.syntax.proofs.limits.left_by_lefts.Goals as goal

pub returns-in_err-left : goal.returns-in_err-left
returns-in_err-left g c =
    rw c.from_residual.ensures (λ fits.
    omega (arith, fits, room_passed (λ (k : LeftJoin). members k.on_) (λ j. left_join_of j) c.args.lefts.now c.loop-left_join.left_join-index c.args.room c.loop-left_join.left c.left_join-item.result c.loop-left_join-test.true c.left_join-item.is c.loop-left_join.invariant (omega (arith, c.in_err-left.ensures, c.left_join_members.ensures))))

pub loop-left_join-preserved : goal.loop-left_join-preserved
loop-left_join-preserved g c =
    omega (arith, c.in_ok-left.ensures.1, c.in_ok-left.ensures.0, c.left_join_members.ensures, sum_next (λ (k : LeftJoin). members k.on_) (λ j. left_join_of j) c.args.lefts.now c.loop-left_join.left_join-index c.left_join-item.result c.loop-left_join-test.true c.left_join-item.is)

pub returns : goal.returns
returns g c = room_left (λ (k : LeftJoin). members k.on_) (λ j. left_join_of j) c.args.lefts.now c.loop-left_join.left_join-index c.args.room c.loop-left_join.left c.loop-left_join-test.false c.loop-left_join.invariant
