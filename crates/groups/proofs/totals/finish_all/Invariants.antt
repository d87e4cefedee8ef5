use Rattle.std.proofs.Common.{◌≡◌}
use Rattle.std.specs.Iterator.Adapters.{zip_first, zip_second}
use Rattle.std.specs.Slice.Iter.{iter_rest}
use Rattle.value.specs.Datum.{row_of}
use Rattle.expr.specs.View.{aggregate_calls_of}
use Rattle.memory.proofs.Each.{after}
use Rattle.groups.specs.Running.{all_finished}
use Rattle.groups.specs.View.{totals_of}
use Rattle.groups.proofs.totals.finish_all.Given as goal

abbrev pub invariant-loop-call : goal.invariant-loop-call
invariant-loop-call g l =
    after (row_of l.values) (all_finished (aggregate_calls_of (iter_rest (zip_first l.call-iterator))) (totals_of (iter_rest (zip_second l.call-iterator)))) ≡ all_finished (aggregate_calls_of l.calls) (totals_of l.totals)
