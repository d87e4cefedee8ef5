use Rattle.std.proofs.Common.{◌≡◌, ◌-◌, ◌&&◌, not}
use Rattle.std.specs.List.{list_any, range_with_len}
use Rattle.stats.specs.View.{members}
use Rattle.joindp.specs.Following as spec
use Rattle.code_costs.specs.View.{problem_of}
use Rattle.joindp.proofs.following.some_joined.Given as goal

abbrev pub invariant-loop-entry : goal.invariant-loop-entry
invariant-loop-entry g l =
    list_any (λ entry. not (members l.placed entry) && spec.is_joined_to (problem_of l.problem).setting (members l.placed) entry) (range_with_len l.entry (l.count - l.entry))
    ≡ spec.some_joined (problem_of l.problem).setting (members l.placed)
