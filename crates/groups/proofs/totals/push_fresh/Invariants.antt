use Rattle.std.proofs.Common.{◌≡◌, ◌++◌, drop}
use Rattle.expr.specs.View.{aggregate_calls_of}
use Rattle.groups.specs.Running.{fresh}
use Rattle.groups.specs.View.{totals_of}
use Rattle.groups.proofs.totals.push_fresh.Given as goal

abbrev pub invariant-loop-call : goal.invariant-loop-call
invariant-loop-call g l = totals_of l.totals.items ++ fresh (aggregate_calls_of (drop l.call-index l.calls)) ≡ totals_of l.fn.totals.items ++ fresh (aggregate_calls_of l.calls)
