use Rattle.std.proofs.Common.{◌∙◌, nat_lt}
use Rattle.stats.specs.View.{members}
use Rattle.code_costs.specs.Best.{estimates}
use Rattle.code_costs.specs.Cost.{first_left}
use Rattle.code_costs.specs.View.{problem_of}
use Rattle.code_costs.proofs.Costs.{same_size}
use Rattle.code_costs.proofs.costing.inner_size.Goals as goal

pub returns-clause-value : goal.returns-clause-value
returns-clause-value g c =
    let at = estimates (problem_of c.args.problem.now) in
    c.size.ensures.value ∙ same_size at (members c.inner_entries.result) (λ i. nat_lt i (first_left at)) c.inner_entries.ensures
