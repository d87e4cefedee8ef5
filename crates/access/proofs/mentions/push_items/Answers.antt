use Rattle.std.proofs.Common.{arith}
use Rattle.expr.specs.View.{bound_item_of}
use Rattle.memory.proofs.Lists.{flat_next, flat_over}
use Rattle.access.specs.Needed.{in_item}
use Rattle.access.proofs.mentions.push_items.Goals as goal

pub loop-item-preserved : goal.loop-item-preserved
loop-item-preserved g c =
    flat_next in_item (λ i. bound_item_of i) c.args.items.now c.loop-item.item-index _ _ c.loop-item.invariant c.item-item.result c.loop-item-test.true c.item-item.is _ (rw c.deref.ensures at c.in_ok-push_expr.ensures)

pub returns : goal.returns
returns g c = flat_over in_item (λ i. bound_item_of i) c.args.items.now c.loop-item.item-index _ _ c.loop-item.invariant (omega (arith, c.loop-item-test.false))
