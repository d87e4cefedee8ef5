use Rattle.std.proofs.Common.{◌≤◌, ◌-◌, length}
use Rattle.csv_records.specs.Scanned.{Scanned}
use Rattle.csv_records.proofs.plain.plain_record.Given as goal

abbrev pub invariant-loop-at : goal.invariant-loop-at
invariant-loop-at l = record {
  within : l.at ≤ length l.bytes;
  scanned : Scanned l.bytes l.ends.items l.start l.at;
}

abbrev pub decreases-loop-at : goal.decreases-loop-at
decreases-loop-at l = length l.bytes - l.at
