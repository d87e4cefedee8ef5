use Rattle.std.proofs.Common.{refl}
use Rattle.replies.proofs.Puts.{after, failed, stops, then}
use Rattle.replies.proofs.writing.put_answer.Goals as goal

pub returns-in_err-put_header : goal.returns-in_err-put_header
returns-in_err-put_header g c = failed c.put_header.new.buffer.items c.from_residual.result c.from_residual.ensures.0 (stops c.in_err-put_header.ensures _ _ refl)

pub returns-in_err-put_rows : goal.returns-in_err-put_rows
returns-in_err-put_rows g c =
    let r = c.from_residual-in_err-put_rows in failed c.put_rows.new.buffer.items r.result r.ensures.0 (after c.in_ok-put_header.ensures c.in_err-put_rows.ensures _ refl)

pub returns : goal.returns
returns g c = then c.in_ok-put_header.ensures c.in_ok-put_rows.ensures _ refl
