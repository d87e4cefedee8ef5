use Rattle.std.proofs.Common.{◌≡◌, ◌+◌, drop}
use Rattle.std.specs.Prelude.{map}
use Rattle.plan_texts.specs.Plans.{PlanEntry}
use Rattle.plan_texts.specs.Reading.{numbered_from, entry_at}
use Rattle.plan_texts.specs.View.{plan_entry_of}
use Rattle.plan_texts.proofs.names.entry_number.Given as goal

abbrev pub invariant-loop-index : goal.invariant-loop-index
invariant-loop-index g l = numbered_from (l.index + 1) (map (λ (e : PlanEntry). e.alias) (map plan_entry_of (drop l.index l.entries))) l.alias ≡ entry_at (map plan_entry_of l.entries) l.alias
