use Rattle.std.proofs.Common.{◌≡◌, ◌-◌}
use Rattle.std.specs.List.{list_any, range_with_len}
use Rattle.joindp.specs.Search as spec
use Rattle.joindp.proofs.reaching.is_reached.Given as goal

abbrev pub invariant-loop-entry : goal.invariant-loop-entry
invariant-loop-entry l = list_any (spec.is_last l.nexts l.set) (range_with_len l.entry (l.count - l.entry)) ≡ list_any (spec.is_last l.nexts l.set) (range_with_len 0 l.count)
