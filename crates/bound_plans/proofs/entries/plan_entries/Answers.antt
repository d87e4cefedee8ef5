use Rattle.std.proofs.Common.{ap, ap₂, ◌∙◌}
use Rattle.memory.proofs.Lists.{map_next, pushed}
use Rattle.scope.specs.View.{entry_of}
use Rattle.plan_texts.specs.View.{plan_entry_of}
use Rattle.bound_plans.specs.Entries.{column_names, plan_entry}
use Rattle.bound_plans.proofs.entries.plan_entries.Goals as goal

pub loop-entry-preserved : goal.loop-entry-preserved
loop-entry-preserved g c =
    map_next (λ e. plan_entry e) (λ e. entry_of e) c.args.entries.now c.loop-entry.entry-index _ _ c.loop-entry.invariant c.entry-item.result c.loop-entry-test.true c.entry-item.is _
    (pushed plan_entry_of c.loop-entry.named c.push.new.self _ _ c.in_ok-push.ensures.ok
    (ap₂ (λ alias columns. record { alias = alias; columns = columns }) c.in_ok-new.ensures (c.in_ok-column_names.ensures ∙ ap column_names c.columns.ensures)))
