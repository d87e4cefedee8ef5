use Rattle.std.proofs.Common.{arith}
use Rattle.std.proofs.lemmas.Nat.Bits.{bit_at_above}
use Rattle.std.proofs.lemmas.Bool.Decides.{nat_tests}
use Rattle.stats.proofs.entry_set.EntrySet.contains.Goals as goal

pub returns-else-entry-lt64 : goal.returns-else-entry-lt64
returns-else-entry-lt64 c = let b = bit_at_above c.args.self.bits 64 c.args.entry (omega arith) (omega arith) in grind (arith, nat_tests, b)
