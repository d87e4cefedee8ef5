use Rattle.std.proofs.Common.{flat_map, drop}
use Rattle.replies.specs.ReplyText.{line_text}
use Rattle.replies.proofs.Puts.{PutTo}
use Rattle.replies.proofs.writing.put_rows.Given as goal

abbrev pub invariant-loop-number : goal.invariant-loop-number
invariant-loop-number g l =
    PutTo g.W.Out.taken g.W.Out.failures l.fn.out l.out l.fn.buffer.items l.buffer.items (flat_map line_text (drop l.number l.rows.rows)) (flat_map line_text l.rows.rows)
