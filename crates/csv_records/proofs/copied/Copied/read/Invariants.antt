use Rattle.csv_records.specs.Machine.{state_of}
use Rattle.csv_records.specs.Records.{LeadsOn}
use Rattle.csv_records.proofs.copied.Copied.read.Given as goal

abbrev pub invariant-loop : goal.invariant-loop
invariant-loop g l = LeadsOn (state_of l.place) l.self.fields l.self.field l.fn.unread.left l.unread.left
