use Rattle.std.proofs.Common.{◌∙◌, ◌≤◌, ap}
use Rattle.expr.specs.View.{code_of}
use Rattle.trailcheck.specs.TuplesView.{guard_of}
use Rattle.trailcheck.specs.View.{setting_of}
use Rattle.trailcheck.specs.Settings.{inner_count}
use Rattle.trailcheck.specs.Shapes.{inner_steps}
use Rattle.code_costs.proofs.Costs.{admissible_below, admissible_few}
use Rattle.code_costs.proofs.Few.{few_of}
use Rattle.code_costs.proofs.costing.cost.Goals as goal

pub steps_cost-requires-clause-few : goal.steps_cost-requires-clause-few
steps_cost-requires-clause-few g c =
    let p = c.args.problem.now in
    let at = setting_of p.setting.now in
    let few : inner_count at ≤ 12 = few_of _ guard_of p.setting.now.frame p.few in
    admissible_few at (code_of c.args.code.now) c.in-Steps.steps c.inner_steps.result.now few c.requires (ap (λ code. code_of code) c.in-Steps.is) (c.inner_steps.ensures ∙ ap (inner_steps at) c.as_slice-steps.ensures)

pub steps_cost-requires-clause-below : goal.steps_cost-requires-clause-below
steps_cost-requires-clause-below g c =
    let p = c.args.problem.now in
    let at = setting_of p.setting.now in
    let few : inner_count at ≤ 12 = few_of _ guard_of p.setting.now.frame p.few in
    admissible_below at (code_of c.args.code.now) c.in-Steps.steps c.inner_steps.result.now few c.requires (ap (λ code. code_of code) c.in-Steps.is) (c.inner_steps.ensures ∙ ap (inner_steps at) c.as_slice-steps.ensures)
