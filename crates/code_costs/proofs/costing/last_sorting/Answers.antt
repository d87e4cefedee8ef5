use Rattle.code_costs.specs.Best.{estimates}
use Rattle.code_costs.specs.View.{problem_of}
use Rattle.code_costs.proofs.Costs.{last_sorted}
use Rattle.code_costs.proofs.costing.last_sorting.Goals as goal

pub returns-in-Some-clause-value : goal.returns-in-Some-clause-value
returns-in-Some-clause-value g c =
    let p = c.args.problem.now in
    last_sorted (estimates (problem_of p)) c.args.order p.wanted c.in-Some.id c.is_ordered_by.result c.whole_size.result c.sorting_unless.result c.in-Some.is c.is_ordered_by.ensures c.whole_size.ensures.value c.sorting_unless.ensures.value
