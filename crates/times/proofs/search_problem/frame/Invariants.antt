use Rattle.std.proofs.Common.{◌≡◌, ◌≤◌, length}
use Rattle.times.proofs.search_problem.frame.Given as goal

abbrev pub invariant-loop : goal.invariant-loop
invariant-loop l = record {
  each : length l.frame ≡ l.counter;
  within : l.counter ≤ l.entries;
}
