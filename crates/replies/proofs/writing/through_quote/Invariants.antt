use Rattle.std.proofs.Common.{◌≡◌, flat_map, take}
use Rattle.replies.specs.ReplyText.{doubled}
use Rattle.replies.proofs.writing.through_quote.Given as goal

abbrev pub invariant-loop-i : goal.invariant-loop-i
invariant-loop-i l = flat_map doubled (take l.i l.bytes) ≡ take l.i l.bytes
