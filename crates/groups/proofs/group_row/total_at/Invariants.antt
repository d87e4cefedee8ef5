use Rattle.std.proofs.Common.{◌≡◌}
use Rattle.std.specs.Iterator.Adapters.{zip_first, zip_second}
use Rattle.std.specs.Slice.Iter.{iter_rest}
use Rattle.value.specs.Datum.{row_of}
use Rattle.expr.specs.View.{aggregate_calls_of}
use Rattle.groups.specs.GroupRow.{total_at}
use Rattle.groups.proofs.group_row.total_at.Given as goal

abbrev pub invariant-loop-call : goal.invariant-loop-call
invariant-loop-call g l =
    total_at (aggregate_calls_of (iter_rest (zip_first l.call-iterator))) (row_of (iter_rest (zip_second l.call-iterator))) l.offset ≡ total_at (aggregate_calls_of l.calls) (row_of l.totals) l.offset
