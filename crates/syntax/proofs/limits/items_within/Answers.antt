use Rattle.std.proofs.Common.{◌+◌, length, arith, sym}
use Rattle.std.proofs.lemmas.Bool.{lt-leb}
use Rattle.std.proofs.lemmas.List.{length-map}
use Rattle.row_ast.specs.Ast.{FromItem}
use Rattle.row_ast.specs.View.{from_item_of, join_of}
use Rattle.syntax.proofs.Sums.{room_passed}
use Rattle.syntax.proofs.limits.items_within.Goals as goal

pub returns-then-joins-left : goal.returns-then-joins-left
returns-then-joins-left g c =
    sym (lt-leb _ _ (room_passed (λ (k : FromItem). 1 + length k.joins) (λ k. from_item_of k) c.args.chains.now c.loop-from_item.from_item-index c.args.room c.loop-from_item.left c.from_item-item.result c.loop-from_item-test.true c.from_item-item.is c.loop-from_item.invariant
    (omega (arith, length-map c.from_item-item.result.joins (λ j. join_of j), c.if-joins-left.true, c.len-joins.ensures))))
