use Rattle.std.proofs.Common.{◌∙◌, ap, sym, subst, arith, slice_index_or}
use Rattle.std.proofs.lemmas.Bool.{ne_eqb}
use Rattle.std.proofs.lemmas.Result.{IfOk-weaker}
use Rattle.code_costs.specs.Best.{estimates}
use Rattle.joindp.specs.Candidates.{picked}
use Rattle.code_costs.specs.Cost.{access_cost}
use Rattle.joindp.specs.Search.{Start, entry_count, plan_of, search}
use Rattle.code_costs.specs.View.{problem_of}
use Rattle.joindp.specs.Walks.{IsBestFrom, IsOneOf}
use Rattle.joindp.proofs.Bests.{as_good_itself}
use Rattle.joindp.proofs.Followed.{all_first}
use Rattle.code_costs.proofs.Few.{no_step}
use Rattle.joindp.proofs.Improved.{all_improved, each_first, improved}
use Rattle.joindp.proofs.searching.best_of_all.Goals as goal

pub rest_after_first-rest-requires-clause-allowed : goal.rest_after_first-rest-requires-clause-allowed
rest_after_first-rest-requires-clause-allowed g c =
    each_first (problem_of c.args.inputs.now.problem.now).setting c.args.steps.now c.loop-step.step-index c.requires.steps c.loop-step-test.true

pub loop-step-preserved : goal.loop-step-preserved
loop-step-preserved g c =
    let p = problem_of c.args.inputs.now.problem.now in
    let may = each_first p.setting c.args.steps.now c.loop-step.step-index c.requires.steps c.loop-step-test.true in
    improved p Start c.args.steps.now c.loop-step.step-index no_step (picked c.loop-step.best) (plan_of c.rest_after_first-rest.result.now) (picked c.better-best.result) c.access_cost-cost.result c.loop-step-test.true may
    c.loop-step.invariant (c.access_cost-cost.ensures.value ∙ ap (λ i. access_cost (estimates p) i (slice_index_or c.args.steps.now c.loop-step.step-index no_step).access) c.entry_index.ensures) c.rest_after_first-rest.ensures.best c.better-best.ensures

pub returns : goal.returns
returns g c =
    let p = problem_of c.args.inputs.now.problem.now in
    let best = all_improved p Start c.args.steps.now c.loop-step.step-index (picked c.loop-step.best) (omega (arith, c.loop-step-test.false)) (ne_eqb (entry_count p) 0 (λ e. omega (arith, e, c.requires.some)))
    (λ s may. (s, subst (λ xs. IsOneOf xs s) (sym c.requires.steps) (all_first p.setting s may), as_good_itself (search p) Start s may)) c.loop-step.invariant in
    IfOk-weaker c.plan.result _ _ (λ b e. subst (IsBestFrom (search p) Start) (sym e) best) c.plan.ensures
