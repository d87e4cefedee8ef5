use Rattle.std.proofs.Common.{◌≡◌, ℕ, ◌-◌, ◌++◌, false, filter, length, map}
use Rattle.std.specs.List.{flat_map, range_with_len}
use Rattle.joindp.specs.Following as spec
use Rattle.code_costs.specs.View.{problem_of}
use Rattle.joindp.proofs.following.first_steps.Given as goal

abbrev pub invariant-loop-entry : goal.invariant-loop-entry
invariant-loop-entry g l =
    l.steps ++ flat_map (λ (entry : ℕ). map (spec.first_step entry) (spec.accesses (problem_of l.problem).setting entry)) (filter (spec.may_be_next (problem_of l.problem).setting (λ entry. false)) (range_with_len l.entry (length l.accesses - l.entry)))
    ≡ spec.first_steps (problem_of l.problem).setting
