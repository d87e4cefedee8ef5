use Rattle.csv_records.proofs.BlockFacts.{ScannedTo}
use Rattle.csv_records.proofs.plain.scan_block.Given as goal

abbrev pub invariant-loop-bits : goal.invariant-loop-bits
invariant-loop-bits l = ScannedTo l.bytes l.ends.items l.start l.at l.bits

abbrev pub decreases-loop-bits : goal.decreases-loop-bits
decreases-loop-bits l = l.bits
