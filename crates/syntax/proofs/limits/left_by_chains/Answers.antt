use Rattle.std.proofs.Common.{map, arith}
use Rattle.std.specs.List.{sum}
use Rattle.syntax.specs.Limits.{join_members}
use Rattle.row_ast.specs.Ast.{FromItem}
use Rattle.row_ast.specs.View.{from_item_of}
use Rattle.syntax.proofs.Sums.{sum_next, room_passed}
use Rattle.syntax.proofs.limits.left_by_chains.Goals as goal

pub returns-in_err-left : goal.returns-in_err-left
returns-in_err-left g c =
    let none = rw c.as_slice.ensures at c.in_err-left.ensures in
    rw c.from_residual.ensures (λ fits.
    omega (arith, fits, room_passed (λ (k : FromItem). sum (map join_members k.joins)) (λ k. from_item_of k) c.args.chains.now c.loop-from_item.from_item-index c.args.room c.loop-from_item.left c.from_item-item.result c.loop-from_item-test.true c.from_item-item.is c.loop-from_item.invariant (omega (arith, none))))

pub loop-from_item-preserved : goal.loop-from_item-preserved
loop-from_item-preserved g c =
    let some = rw c.as_slice.ensures at c.in_ok-left.ensures in
    omega (arith, some.0, some.1, sum_next (λ (k : FromItem). sum (map join_members k.joins)) (λ k. from_item_of k) c.args.chains.now c.loop-from_item.from_item-index c.from_item-item.result c.loop-from_item-test.true c.from_item-item.is)
