use Rattle.std.proofs.Common.{◌≡◌, drop}
use Rattle.std.specs.List.{list_any}
use Rattle.access.specs.EachOnce.{is_mention_of}
use Rattle.access.proofs.once.is_mentioned.Given as goal

abbrev pub invariant-loop-mention : goal.invariant-loop-mention
invariant-loop-mention l = list_any (is_mention_of l.id) (drop l.mention-index l.mentions) ≡ list_any (is_mention_of l.id) l.mentions
