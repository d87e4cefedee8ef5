use Rattle.std.proofs.Common.{refl}
use Rattle.report.proofs.answering.Answering.new.Goals as goal

pub returns : goal.returns
returns g c = record { world = refl; marks = c.in_ok-marks.ensures; calls = c.in_ok-calls.ensures; fault = c.new-3.ensures.least; kept = c.in_ok-gathered.ensures }
