use Rattle.plan_laws.proofs.PlanningSaid.{planning_said}
use Rattle.plan_laws.proofs.laws.law_planning_lists_are_said.Goals as goal

pub returns : goal.returns
returns c = planning_said
