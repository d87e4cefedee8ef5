use Rattle.std.proofs.Common.{[], ap, arith}
use Rattle.replies.specs.ReplyText.{line_text}
use Rattle.replies.proofs.Puts.{failed, one_on, put_more, put_none, put_stopped}
use Rattle.replies.proofs.writing.put_rows.Goals as goal

pub loop-number-init : goal.loop-number-init
loop-number-init g c = put_none c.args.out.now c.args.buffer.now.items _

pub returns-in_err-put_line : goal.returns-in_err-put_line
returns-in_err-put_line g c =
    let next = one_on line_text c.args.rows.now.rows c.loop-number.number [] _ (omega (arith, c.loop-number-test.true, c.len-number-end.ensures)) (ap line_text c.row.ensures) in
    failed c.put_line.new.buffer.items c.from_residual.result c.from_residual.ensures.0 (put_stopped c.loop-number.invariant c.in_err-put_line.ensures _ next)

pub loop-number-preserved : goal.loop-number-preserved
loop-number-preserved g c =
    let next = one_on line_text c.args.rows.now.rows c.loop-number.number [] _ (omega (arith, c.loop-number-test.true, c.len-number-end.ensures)) (ap line_text c.row.ensures) in
    put_more c.loop-number.invariant c.in_ok-put_line.ensures _ next
