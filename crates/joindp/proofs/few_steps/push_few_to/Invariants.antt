use Rattle.std.proofs.Common.{◌≡◌, ◌++◌, drop}
use Rattle.std.specs.List.{flat_map}
use Rattle.joindp.specs.FewSteps as spec
use Rattle.code_costs.specs.View.{problem_of}
use Rattle.joindp.proofs.few_steps.push_few_to.Given as goal

abbrev pub invariant-loop-number : goal.invariant-loop-number
invariant-loop-number g l = l.known ++ flat_map (spec.merges (problem_of l.problem) l.entry l.accesses l.cheapest) (drop l.number-index l.equalities) ≡ l.fn.known ++ spec.few_of (problem_of l.problem) l.entry l.accesses l.equalities
