use Rattle.std.proofs.Common.{sym}
use Rattle.std.proofs.lemmas.Iterator.Adapters.{position_from-zero}
use Rattle.algebra.specs.PlanningList.{turns}
use Rattle.algebra.proofs.turning.first_turning.Goals as goal

pub loop-i-init : goal.loop-i-init
loop-i-init g c = sym (position_from-zero (turns c.args.entry) c.args.conditions.now)
