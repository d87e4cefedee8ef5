use Rattle.std.proofs.Common.{◌≡◌, ◌-◌, ◌++◌, filter, length}
use Rattle.std.specs.List.{flat_map, range_with_len}
use Rattle.stats.specs.View.{members}
use Rattle.joindp.specs.FewSteps as spec
use Rattle.joindp.specs.Following.{may_be_next}
use Rattle.code_costs.specs.View.{problem_of}
use Rattle.joindp.proofs.few_steps.few_steps.Given as goal

abbrev pub invariant-loop-entry : goal.invariant-loop-entry
invariant-loop-entry g l =
    l.steps ++ flat_map (spec.few_steps_to (problem_of l.problem) (members l.placed)) (filter (may_be_next (problem_of l.problem).setting (members l.placed)) (range_with_len l.entry (length l.accesses - l.entry)))
    ≡ spec.few_steps (problem_of l.problem) (members l.placed)
