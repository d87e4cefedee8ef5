use Rattle.std.proofs.Common.{◌-◌}
use Rattle.joindp.specs.Search.{IsTable}
use Rattle.code_costs.specs.View.{problem_of}
use Rattle.joindp.proofs.searching.best_plan.Given as goal

abbrev pub invariant-loop-set : goal.invariant-loop-set
invariant-loop-set g l = IsTable (problem_of l.inputs.problem.now) l.inputs.nexts.now l.inputs.orders.now (l.set - 1) l.table.items
