use Rattle.std.proofs.Common.{◌≡◌, ◌++◌, drop, map}
use Rattle.access.specs.declared.mentions.Mention.TheVariants as mention
use Rattle.access.proofs.mentions.push_ids.Given as goal

abbrev pub invariant-loop-id : goal.invariant-loop-id
invariant-loop-id g l = l.mentions ++ map mention.Column (drop l.id-index l.ids) ≡ l.fn.mentions ++ map mention.Column l.ids
