use Rattle.std.proofs.Common.{subst, sym, arith}
use Rattle.expr.specs.View.{bound_expr_of}
use Rattle.tuples.specs.View.{world_of}
use Rattle.row_marks.specs.Marked.{marked_entry}
use Rattle.row_marks.specs.Marks.{AreMarked, seen_of}
use Rattle.row_marks.proofs.Marking.{are_more, both_all, both_more}
use Rattle.row_marks.proofs.marks.marked_conditions.Goals as goal

pub loop-condition-preserved : goal.loop-condition-preserved
loop-condition-preserved g c =
    let w = world_of c.args.world.now in
    record {
      seen = both_more (λ m. seen_of m) (λ e. (bound_expr_of e.now, marked_entry w (bound_expr_of e.now))) c.loop-condition.marked.items _ _ c.args.conditions.now c.loop-condition.condition-index c.condition-item.result
          c.loop-condition-test.true c.condition-item.is c.in_ok-push.ensures.items c.in_ok-new.ensures.seen c.loop-condition.invariant.seen;
      marked = subst (AreMarked w) (sym c.in_ok-push.ensures.items) (are_more w c.loop-condition.marked.items _ c.loop-condition.invariant.marked c.in_ok-new.ensures.marked);
    }

pub returns : goal.returns
returns g c =
    let w = world_of c.args.world.now in
    record {
      seen = both_all (λ m. seen_of m) (λ e. (bound_expr_of e.now, marked_entry w (bound_expr_of e.now))) c.loop-condition.marked.items c.args.conditions.now c.loop-condition.condition-index (omega arith) c.loop-condition.invariant.seen;
      marked = c.loop-condition.invariant.marked;
    }
