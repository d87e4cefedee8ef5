use Rattle.std.proofs.Common.{sym, ◌∙◌}
use Rattle.trailcheck.specs.Admissible as spec
use Rattle.trailcheck.specs.View.{setting_of}
use Rattle.trailcheck.proofs.Numbers.{none_yet}
use Rattle.trailcheck.proofs.admissible.some_waiting.Goals as goal

pub loop-entry-preserved : goal.loop-entry-preserved
loop-entry-preserved g c =
    none_yet (spec.is_waiting (setting_of c.args.setting.now) c.args.placed.now) c.inner_count-count.result c.loop-entry.entry _ c.loop-entry.invariant c.loop-entry-test.true (sym c.in_ok-is_waiting.ensures ∙ c.if-branch.false)
