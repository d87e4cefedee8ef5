use Rattle.std.proofs.Common.{flat_map, length}
use Rattle.replies.specs.ReplyText.{doubled}
use Rattle.replies.proofs.Puts.{PutTo}
use Rattle.replies.proofs.writing.put_doubled.Given as goal

abbrev pub invariant-loop-n : goal.invariant-loop-n
invariant-loop-n g l =
    PutTo g.W.Out.taken g.W.Out.failures l.fn.out l.out l.fn.buffer.items l.buffer.items (flat_map doubled l.rest) (flat_map doubled l.bytes)

abbrev pub decreases-loop-n : goal.decreases-loop-n
decreases-loop-n g l = length l.rest
