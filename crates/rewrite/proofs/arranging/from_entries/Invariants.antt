use Rattle.std.proofs.Common.{◌≡◌, ◌-◌, ◌++◌, reverse}
use Rattle.std.specs.List.{range_with_len}
use Rattle.rewrite.proofs.arranging.from_entries.Given as goal

abbrev pub invariant-loop-k : goal.invariant-loop-k
invariant-loop-k g l = l.entries ++ reverse (range_with_len 0 (l.count - l.k)) ≡ reverse (range_with_len 0 l.count)
