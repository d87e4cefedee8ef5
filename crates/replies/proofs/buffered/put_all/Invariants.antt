use Rattle.std.proofs.Common.{flat_map, drop}
use Rattle.replies.proofs.Puts.{PutTo}
use Rattle.replies.proofs.buffered.put_all.Given as goal

abbrev pub invariant-loop-text : goal.invariant-loop-text
invariant-loop-text g l =
    PutTo g.W.Out.taken g.W.Out.failures l.fn.out l.out l.fn.buffer.items l.buffer.items (flat_map (λ t. t.now) (drop l.text-index l.texts)) (flat_map (λ t. t.now) l.texts)
