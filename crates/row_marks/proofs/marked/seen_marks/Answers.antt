use Rattle.std.proofs.Common.{arith}
use Rattle.expr.specs.View.{bound_expr_of}
use Rattle.tuples.specs.View.{world_of}
use Rattle.row_marks.proofs.MarkedRows.{all_made, next_made}
use Rattle.row_marks.proofs.marked.seen_marks.Goals as goal

pub loop-number-init : goal.loop-number-init
loop-number-init g c = record { made = λ k lt. absurd (omega (arith, lt)); left = λ k le. c.new-marks.ensures k }

pub loop-number-preserved : goal.loop-number-preserved
loop-number-preserved g c =
    next_made (world_of c.args.world.now) c.args.entry (bound_expr_of c.args.expression.now) c.loop-number.marks c.put_if_seen.new.marks c.loop-number.number c.loop-number.invariant
    c.in_ok-put_if_seen.ensures.made c.in_ok-put_if_seen.ensures.others

pub returns : goal.returns
returns g c = all_made (world_of c.args.world.now) c.args.entry (bound_expr_of c.args.expression.now) c.loop-number.marks c.loop-number.number (omega (arith, c.row_count-number-end.ensures, c.loop-number-test.false)) c.loop-number.invariant
