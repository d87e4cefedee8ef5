use Rattle.std.proofs.Common.{◌≡◌, ◌<◌, drop, length}
use Rattle.expr.specs.View.{aggregate_calls_of}
use Rattle.groups.specs.Members.{all_of}
use Rattle.groups.specs.Running.{AreOutcomesInPlace, started}
use Rattle.groups.specs.View.{totals_of}
use Rattle.groups.proofs.Adding.{with_due}
use Rattle.groups.proofs.totals.add_arguments.Given as goal

abbrev pub invariant-loop-index : goal.invariant-loop-index
invariant-loop-index g l =
    let outcomes = g.G.Arguments.outcomes l.arguments in
    record {
      added : with_due l.index (totals_of l.totals.items) (all_of (drop l.index outcomes)) ≡ with_due 0 (started (aggregate_calls_of l.calls) (totals_of l.fn.totals.items)) (all_of outcomes);
      in_place : 0 < length l.fn.totals.items → AreOutcomesInPlace (totals_of l.fn.totals.items) outcomes → AreOutcomesInPlace (drop l.index (totals_of l.totals.items)) (drop l.index outcomes);
    }
