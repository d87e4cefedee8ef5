use Rattle.std.proofs.Common.{take}
use Rattle.joindp.specs.Candidates.{picked}
use Rattle.joindp.specs.Search.{Start, search}
use Rattle.code_costs.specs.View.{problem_of}
use Rattle.joindp.specs.Walks.{IsBestOf}
use Rattle.joindp.proofs.searching.best_of_all.Given as goal

abbrev pub invariant-loop-step : goal.invariant-loop-step
invariant-loop-step g l = IsBestOf (search (problem_of l.inputs.problem.now)) (take l.step-index l.steps) Start (picked l.best)
