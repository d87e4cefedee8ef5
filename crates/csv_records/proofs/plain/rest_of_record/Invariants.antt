use Rattle.csv_records.specs.Scanned.{Scanned}
use Rattle.csv_records.proofs.plain.rest_of_record.Given as goal

abbrev pub invariant-loop-i : goal.invariant-loop-i
invariant-loop-i l = Scanned l.bytes l.ends.items l.start l.i
