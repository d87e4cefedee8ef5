use Rattle.std.proofs.Common.{ap, sym}
use Rattle.code_costs.specs.Best.{estimates}
use Rattle.code_costs.specs.Cost as spec
use Rattle.code_costs.specs.View.{problem_of}
use Rattle.code_costs.proofs.costing.join_cost.Goals as goal

pub returns-in-Hash-clause-value : goal.returns-in-Hash-clause-value
returns-in-Hash-clause-value g c = sym (ap (spec.join_cost (estimates (problem_of c.args.problem.now)) c.args.x c.args.y c.args.order c.args.step) c.in-Hash.is)
