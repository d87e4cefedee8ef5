use Rattle.std.proofs.Common.{◌≡◌, ◌+◌, suc, map, arith}
use Rattle.stats.specs.View.{selections_of, stats_of}
use Rattle.left_tails.proofs.TailCosts.{first_and_rest}
use Rattle.left_tails.proofs.costing.+tail_cost.Goals as goal

pub returns-in-Some-Some-clause-value : goal.returns-in-Some-Some-clause-value
returns-in-Some-Some-clause-value g t c =
    let of = map (λ s. stats_of s.now) c.args.statistics.now in
    let conditions = selections_of c.args.conditions.now in
    let next : c.args.entry + 1 ≡ suc c.args.entry = omega arith in
    first_and_rest of conditions c.args.v c.args.entry c.size_with_left-size.result (c.args.entry + 1) c.left_join_cost.result c.rows_of.result c.tail_cost.result c.args.lefts.now c.in-Some-Some.lefts.now c.args.steps.now c.in-Some-Some.steps.now c.in-Some-Some.on.now c.in-Some-Some.step.now
    c.in-Some-Some.ensures.cases.0 c.in-Some-Some.ensures'.cases.0 c.left_join_cost.ensures.value c.rows_of.ensures c.size_with_left-size.ensures.value next c.tail_cost.ensures.value
