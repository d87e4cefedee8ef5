use Rattle.std.proofs.Common.{◌++◌, List, ℕ, drop}
use Rattle.csv_records.specs.Records.{SameNext}
use Rattle.csv_records.proofs.plain.line_ends.Given as goal

abbrev pub invariant-loop-i : goal.invariant-loop-i
invariant-loop-i l = (more : List ℕ) → SameNext (l.bytes ++ more) (drop l.i (l.bytes ++ more))
