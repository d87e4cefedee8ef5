use Rattle.std.proofs.Common.{◌≡◌, ◌≤◌, length}
use Rattle.times.proofs.search_problem.for_each_entry.Given as goal

abbrev pub invariant-loop : goal.invariant-loop
invariant-loop l = record {
  each : length l.all.items ≡ l.counter;
  within : l.counter ≤ l.entries;
}
