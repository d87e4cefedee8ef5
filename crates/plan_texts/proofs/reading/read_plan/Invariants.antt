use Rattle.std.proofs.Common.{length}
use Rattle.std.specs.Prelude.{map}
use Rattle.plan_texts.specs.View.{draft_of, plan_entry_of}
use Rattle.plan_texts.proofs.Progress.{Reads}
use Rattle.plan_texts.proofs.reading.read_plan.Given as goal

abbrev pub invariant-loop-next : goal.invariant-loop-next
invariant-loop-next g l = Reads (map plan_entry_of l.entries) l.text l.number (draft_of l.draft) l.rest

abbrev pub decreases-loop-next : goal.decreases-loop-next
decreases-loop-next g l = length l.rest
