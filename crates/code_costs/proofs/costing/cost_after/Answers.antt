use Rattle.std.proofs.Common.{◌∙◌, ap, get_or, refl, arith}
use Rattle.stats.specs.View.{members}
use Rattle.joins.specs.Orders.{order_after}
use Rattle.code_costs.specs.Best.{estimates}
use Rattle.code_costs.specs.Cost as spec
use Rattle.code_costs.specs.View.{problem_of}
use Rattle.code_costs.proofs.Costs.{part_all, part_first, part_more, rest_below, size_of_one}
use Rattle.code_costs.proofs.costing.cost_after.Goals as goal
use Rattle.code_costs.proofs.Few.{no_step}

pub loop-step-init : goal.loop-step-init
loop-step-init g c = record {
  part = λ placed same. part_first (estimates (problem_of c.args.problem.now)) placed (members c.args.entries) c.args.first c.args.steps.now same;
  below = c.requires.below;
  small = omega arith;
}

pub loop-step-preserved : goal.loop-step-preserved
loop-step-preserved g c =
    let at = estimates (problem_of c.args.problem.now) in
    let steps = c.args.steps.now in
    let k = c.loop-step.step-index in
    let entry = c.entry_index-entry.result in
    let rows = size_of_one at entry c.size-rows.result (members c.with.result) (members c.none.result) c.none.ensures.members c.with.ensures.members c.size-rows.ensures.value in
    record {
      part = λ placed same.
          part_more at steps k no_step c.loop-step-test.true entry c.entry_index-entry.ensures (members c.loop-step.placed) (members c.with-placed.result) c.loop-step.order c.order_after-order.result c.size.result c.size-rows.result c.step_cost-total.result
          c.loop-step.total _ (spec.cost_after at placed c.args.first steps) c.with-placed.ensures.members c.size.ensures.value rows c.step_cost-total.ensures.value refl
          (c.order_after-order.ensures ∙ ap (λ cs. order_after cs entry c.loop-step.order (get_or steps k no_step).method) c.as_slice-conditions.ensures) (c.loop-step.invariant.part placed same);
      below = rest_below steps k no_step c.loop-step-test.true c.loop-step.invariant.below;
      small = omega (arith, c.step_cost-total.ensures.small, c.loop-step.invariant.small);
    }

pub returns-clause-value : goal.returns-clause-value
returns-clause-value g c =
    let at = estimates (problem_of c.args.problem.now) in
    λ placed same.
    part_all at c.args.steps.now c.loop-step.step-index (members c.loop-step.placed) c.loop-step.order c.loop-step.total c.last_sorting.result (spec.cost_after at placed c.args.first c.args.steps.now) (omega (arith, c.loop-step-test.false)) c.last_sorting.ensures.value (c.loop-step.invariant.part placed same)
