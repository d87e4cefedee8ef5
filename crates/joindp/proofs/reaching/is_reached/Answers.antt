use Rattle.std.proofs.Common.{◌∙◌, sym}
use Rattle.joindp.specs.Search as spec
use Rattle.trailcheck.proofs.Numbers.{none_yet}
use Rattle.joindp.proofs.reaching.is_reached.Goals as goal

pub loop-entry-preserved : goal.loop-entry-preserved
loop-entry-preserved c =
    none_yet (spec.is_last c.args.nexts.now c.args.set) c.args.count c.loop-entry.entry _ c.loop-entry.invariant c.loop-entry-test.true (sym c.is_last.ensures ∙ c.if-is_last.false)
