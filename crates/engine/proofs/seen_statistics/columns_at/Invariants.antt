use Rattle.std.proofs.Common.{◌≡◌, ◌++◌, drop}
use Rattle.report.specs.Restricted.{columns_at}
use Rattle.engine.proofs.seen_statistics.columns_at.Given as goal

abbrev pub invariant-loop-id : goal.invariant-loop-id
invariant-loop-id g l = l.columns ++ columns_at l.entry (drop l.id-index l.ids) ≡ columns_at l.entry l.ids
