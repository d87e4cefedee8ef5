use Rattle.std.proofs.Common.{◌+◌, ◌≤◌}
use Rattle.accept_runs.proofs.slow_source.take_steps.Given as goal

abbrev pub invariant-loop : goal.invariant-loop
invariant-loop l = l.work ≤ l.fn.work + l.counter
