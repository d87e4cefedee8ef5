use Rattle.std.proofs.Common.{◌∷◌, flat_map, drop}
use Rattle.replies.specs.ReplyText.{field_text}
use Rattle.replies.proofs.Puts.{PutTo}
use Rattle.replies.proofs.writing.put_further_fields.Given as goal

abbrev pub invariant-loop-i : goal.invariant-loop-i
invariant-loop-i g l =
    PutTo g.W.Out.taken g.W.Out.failures l.fn.out l.out l.fn.buffer.items l.buffer.items (flat_map (λ e. 44 ∷ field_text e) (drop l.i l.row)) (flat_map (λ e. 44 ∷ field_text e) l.row)
