use Rattle.std.proofs.Common.{◌≡◌, ◌++◌, drop, map}
use Rattle.scope.specs.View.{entries_of}
use Rattle.plan_texts.specs.View.{plan_entry_of}
use Rattle.bound_plans.specs.Entries.{plan_entries}
use Rattle.bound_plans.proofs.entries.plan_entries.Given as goal

abbrev pub invariant-loop-entry : goal.invariant-loop-entry
invariant-loop-entry g l = map plan_entry_of l.named ++ plan_entries (entries_of (drop l.entry-index l.entries)) ≡ plan_entries (entries_of l.entries)
