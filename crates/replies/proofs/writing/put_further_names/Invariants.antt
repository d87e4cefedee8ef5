use Rattle.std.proofs.Common.{◌∷◌, flat_map, map, drop}
use Rattle.value.specs.Datum.{text}
use Rattle.replies.specs.ReplyText.{field_text}
use Rattle.replies.proofs.Puts.{PutTo}
use Rattle.replies.proofs.writing.put_further_names.Given as goal

abbrev pub invariant-loop-name : goal.invariant-loop-name
invariant-loop-name g l =
    PutTo g.W.Out.taken g.W.Out.failures l.fn.out l.out l.fn.buffer.items l.buffer.items (flat_map (λ e. 44 ∷ field_text e) (map text (drop l.name-index l.names))) (flat_map (λ e. 44 ∷ field_text e) (map text l.names))
