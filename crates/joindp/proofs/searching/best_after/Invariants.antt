use Rattle.std.proofs.Common.{◌-◌, ◌^◌, map, take}
use Rattle.joindp.specs.Candidates.{picked}
use Rattle.joindp.specs.Search.{After, IsSmall, entry_count, search}
use Rattle.code_costs.specs.View.{problem_of}
use Rattle.joindp.specs.Walks.{IsBestOf}
use Rattle.joindp.proofs.searching.best_after.Given as goal

abbrev pub invariant-loop-candidate : goal.invariant-loop-candidate
invariant-loop-candidate g l = record {
  best : IsBestOf (search (problem_of l.inputs.problem.now)) (take l.candidate-index (map (λ c. c.step) l.candidates)) (After l.set l.order) (picked l.best);
  small : IsSmall (2 ^ entry_count (problem_of l.inputs.problem.now) - l.set) (picked l.best);
}
