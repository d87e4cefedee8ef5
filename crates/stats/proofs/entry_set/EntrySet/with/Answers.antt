use Rattle.std.proofs.Common.{◌∙◌, ap, bit_or}
use Rattle.std.proofs.lemmas.Nat.{one_shl}
use Rattle.stats.proofs.EntrySets.{bit_set, set_adds}
use Rattle.stats.proofs.entry_set.EntrySet.with.Goals as goal

pub returns-clause-members : goal.returns-clause-members
returns-clause-members c i = bit_set c.args.self.bits c.args.entry i c.requires

pub returns-clause-bits : goal.returns-clause-bits
returns-clause-bits c unset = ap (bit_or c.args.self.bits) (one_shl c.args.entry 64 c.requires) ∙ set_adds c.args.self.bits c.args.entry unset
