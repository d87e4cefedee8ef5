use Rattle.std.proofs.Common.{ap, subst, sym, ◌∙◌, arith}
use Rattle.expr.specs.View.{bound_expr_of, bound_item_of}
use Rattle.groups.proofs.SameGroups.{map-map}
use Rattle.tuples.specs.View.{world_of}
use Rattle.row_marks.specs.Marked.{computed_entry}
use Rattle.row_marks.specs.Marks.{AreMarked, seen_of}
use Rattle.row_marks.proofs.Marking.{are_more, both_all, both_more}
use Rattle.row_marks.proofs.marks.marked_items.Goals as goal

pub loop-item-preserved : goal.loop-item-preserved
loop-item-preserved g c =
    let w = world_of c.args.world.now in
    record {
      seen = both_more (λ m. seen_of m) (λ i. ((bound_item_of i).value, computed_entry w (bound_item_of i).value)) c.loop-item.marked.items _ _ c.args.items.now c.loop-item.item-index c.item-item.result
          c.loop-item-test.true c.item-item.is c.in_ok-push.ensures.items (c.in_ok-unless_column.ensures.seen ∙ ap (λ e. (bound_expr_of e, computed_entry w (bound_expr_of e))) c.deref.ensures) c.loop-item.invariant.seen;
      marked = subst (AreMarked w) (sym c.in_ok-push.ensures.items) (are_more w c.loop-item.marked.items _ c.loop-item.invariant.marked c.in_ok-unless_column.ensures.marked);
    }

pub returns : goal.returns
returns g c =
    let w = world_of c.args.world.now in
    record {
      seen = both_all (λ m. seen_of m) (λ i. ((bound_item_of i).value, computed_entry w (bound_item_of i).value)) c.loop-item.marked.items c.args.items.now c.loop-item.item-index (omega arith) c.loop-item.invariant.seen
          ∙ sym (map-map (λ i. (i.value, computed_entry w i.value)) (λ i. bound_item_of i) c.args.items.now);
      marked = c.loop-item.invariant.marked;
    }
