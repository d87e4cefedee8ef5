use Rattle.std.proofs.Common.{◌≡◌, drop}
use Rattle.access.specs.EachOnce.{each_once, with_mentions}
use Rattle.access.proofs.once.each_once.Given as goal

abbrev pub invariant-loop-mention : goal.invariant-loop-mention
invariant-loop-mention g l = with_mentions l.once (drop l.mention-index l.mentions) ≡ each_once l.mentions
