use Rattle.std.proofs.Common.{◌≡◌, drop}
use Rattle.joindp.specs.FewSteps as spec
use Rattle.code_costs.specs.View.{problem_of}
use Rattle.joindp.proofs.few_steps.least_access.Given as goal

abbrev pub invariant-loop-access : goal.invariant-loop-access
invariant-loop-access g l = spec.least_from (problem_of l.problem) l.entry l.column l.best (drop l.access-index l.accesses) ≡ spec.least (problem_of l.problem) l.entry l.column l.accesses
