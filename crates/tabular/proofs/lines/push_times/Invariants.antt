use Rattle.std.proofs.Common.{◌≡◌, ◌++◌, replicate}
use Rattle.tabular.proofs.lines.push_times.Given as goal

abbrev pub invariant-loop : goal.invariant-loop
invariant-loop g l = l.out.items ≡ l.fn.out.items ++ replicate l.counter l.byte
