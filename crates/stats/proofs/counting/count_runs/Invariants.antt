use Rattle.std.proofs.Common.{◌≡◌, ◌+◌, ◌≤◌, drop}
use Rattle.std.specs.Ordering.{int_cmp}
use Rattle.stats.specs.Runs.{runs}
use Rattle.stats.proofs.counting.count_runs.Given as goal

abbrev pub invariant-loop-i : goal.invariant-loop-i
invariant-loop-i l = record {
  few : l.count ≤ l.i;
  counts : l.count + runs int_cmp (drop l.i l.numbers) ≡ runs int_cmp l.numbers;
}
