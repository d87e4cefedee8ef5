use Rattle.std.proofs.Common.{List, ℕ}
use denote.Ref.{Bor}
use Rattle.memory.proofs.Lists.{map_next, pushed}
use Rattle.scope.specs.View.{entry_of}
use Rattle.setup.proofs.plan_tree.table_names.Goals as goal

pub loop-entry-preserved : goal.loop-entry-preserved
loop-entry-preserved g c =
    map_next (λ e. e.table.name) (λ e. entry_of e) c.args.entries.now c.loop-entry.entry-index _ _ c.loop-entry.invariant c.entry-item.result c.loop-entry-test.true c.entry-item.is _
    (pushed (λ (t : Bor (List ℕ)). t.now) c.loop-entry.names.items c.push.new.self.items _ _ c.in_ok-push.ensures.items c.name.ensures)
