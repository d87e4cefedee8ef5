use Rattle.std.proofs.Common.{length}
use Rattle.row_tokens.proofs.Starts.{Found}
use Rattle.row_tokens.proofs.scanner.scan_without_offsets.Given as goal

abbrev pub invariant-loop-byte : goal.invariant-loop-byte
invariant-loop-byte g l = Found l.text l.tokens.items l.rest

abbrev pub decreases-loop-byte : goal.decreases-loop-byte
decreases-loop-byte g l = length l.rest
