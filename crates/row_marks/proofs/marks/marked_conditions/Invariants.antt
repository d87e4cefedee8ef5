use Rattle.std.proofs.Common.{◌≡◌, map, take}
use Rattle.expr.specs.View.{bound_expr_of}
use Rattle.tuples.specs.View.{world_of}
use Rattle.row_marks.specs.Marked.{marked_entry}
use Rattle.row_marks.specs.Marks.{AreMarked, seen_of}
use Rattle.row_marks.proofs.marks.marked_conditions.Given as goal

abbrev pub invariant-loop-condition : goal.invariant-loop-condition
invariant-loop-condition g l = record {
  seen : map (λ m. seen_of m) l.marked.items ≡ map (λ e. (bound_expr_of e.now, marked_entry (world_of l.world) (bound_expr_of e.now))) (take l.condition-index l.conditions);
  marked : AreMarked (world_of l.world) l.marked.items;
}
