use Rattle.std.proofs.Common.{◌≡◌, ◌+◌, ◌-◌, ◌++◌, filter}
use Rattle.std.specs.List.{range_with_len}
use Rattle.stats.specs.View.{members}
use Rattle.joindp.specs.Following as spec
use Rattle.code_costs.specs.View.{problem_of}
use Rattle.joindp.proofs.following.equalities.Given as goal

abbrev pub invariant-loop-k : goal.invariant-loop-k
invariant-loop-k g l =
    l.numbers ++ filter (spec.is_equality (problem_of l.problem).setting (members l.placed) l.entry) (range_with_len (l.k + 1) (l.count - l.k))
    ≡ filter (spec.is_equality (problem_of l.problem).setting (members l.placed) l.entry) (spec.all_numbers (problem_of l.problem).setting)
