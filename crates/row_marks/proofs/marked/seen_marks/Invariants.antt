use Rattle.expr.specs.View.{bound_expr_of}
use Rattle.tuples.specs.View.{world_of}
use Rattle.row_marks.proofs.MarkedRows.{AreMadeTo}
use Rattle.row_marks.proofs.marked.seen_marks.Given as goal

abbrev pub invariant-loop-number : goal.invariant-loop-number
invariant-loop-number g l = AreMadeTo (world_of l.world) l.entry (bound_expr_of l.expression) l.marks l.number
