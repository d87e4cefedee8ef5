use Rattle.std.proofs.Common.{◌+◌, ◌-◌, ◌^◌, ◌≤◌, List, map, sym, subst, slice_index_or, arith}
use Rattle.std.proofs.lemmas.Bool.{ne_eqb}
use Rattle.std.proofs.lemmas.List.{length-map}
use Rattle.std.proofs.lemmas.Result.{IfOk-weaker}
use Rattle.expr.specs.declared.code.CodeStep.{CodeStep}
use Rattle.joindp.specs.Candidates.{picked}
use Rattle.joindp.specs.Search.{After, entry_count, plan_of, search}
use Rattle.code_costs.specs.View.{problem_of}
use Rattle.joindp.specs.Walks.{IsBestFrom, IsOneOf}
use Rattle.joindp.proofs.Asked.{improved_by, candidate_at, may_come, no_candidate, own_step}
use Rattle.joindp.proofs.Bests.{IsAsGood}
use Rattle.joindp.proofs.FewSteps.{enough}
use Rattle.joindp.proofs.Improved.{all_improved, improved_small}
use Rattle.code_costs.proofs.Few.{few_of}
use Rattle.joindp.proofs.Sized.{few_sets, smaller}
use Rattle.joindp.proofs.searching.best_after.Goals as goal

pub rest_after-rest-requires-clause-allowed : goal.rest_after-rest-requires-clause-allowed
rest_after-rest-requires-clause-allowed g c = may_come (problem_of c.args.inputs.now.problem.now) c.args.inputs.now.orders.now c.args.set c.args.candidates.now c.requires.candidates c.loop-candidate.candidate-index no_candidate c.loop-candidate-test.true

pub better-best-requires-clause-rest : goal.better-best-requires-clause-rest
better-best-requires-clause-rest g c =
    let p = problem_of c.args.inputs.now.problem.now in
    let few : entry_count p ≤ 12 = few_of _ _ c.args.inputs.now.problem.now.setting.now.frame c.args.inputs.now.problem.now.few in
    let sets = few_sets p few in
    smaller _ 4096 (plan_of c.rest_after-rest.result.now) (omega (arith, sets)) c.rest_after-rest.ensures.small

pub loop-candidate-preserved : goal.loop-candidate-preserved
loop-candidate-preserved g c =
    let p = problem_of c.args.inputs.now.problem.now in
    let i = c.loop-candidate.candidate-index in
    let cs = c.args.candidates.now in
    let at = candidate_at p c.args.inputs.now.orders.now c.args.set cs c.requires.candidates i no_candidate c.loop-candidate-test.true in
    record {
      best = improved_by p c.args.inputs.now.orders.now c.args.set cs c.requires.candidates i no_candidate c.loop-candidate-test.true c.args.order (picked c.loop-candidate.best) (plan_of c.rest_after-rest.result.now) (picked c.better-best.result) c.cost_with-cost.result
          c.loop-candidate.invariant.best c.cost_with-cost.ensures c.rest_after-rest.ensures.best c.better-best.ensures;
      small = improved_small (2 ^ entry_count p - c.args.set) c.cost_with-cost.result (slice_index_or cs i no_candidate).step (picked c.loop-candidate.best) (plan_of c.rest_after-rest.result.now) (picked c.better-best.result) (omega (arith, c.requires.within)) (let e = at.small c.args.order in omega (arith, e, c.cost_with-cost.ensures))
          c.loop-candidate.invariant.small c.rest_after-rest.ensures.small c.better-best.ensures;
    }

pub returns-clause-best : goal.returns-clause-best
returns-clause-best g c =
    let p = problem_of c.args.inputs.now.problem.now in
    let steps = map own_step c.args.candidates.now in
    let many = length-map c.args.candidates.now own_step in
    let best = all_improved p (After c.args.set c.args.order) steps c.loop-candidate.candidate-index (picked c.loop-candidate.best) (omega (arith, many, c.loop-candidate-test.false)) (ne_eqb (c.args.set + 1) (2 ^ entry_count p) (λ e. omega (arith, e, c.requires.within)))
    (λ s may. subst (λ (xs : List CodeStep). (d : CodeStep) × IsOneOf xs d × IsAsGood (search p) (After c.args.set c.args.order) d s) (sym c.requires.candidates.0) (enough p c.args.set c.args.order s may)) c.loop-candidate.invariant.best in
    IfOk-weaker c.plan.result _ _ (λ b e. subst (IsBestFrom (search p) (After c.args.set c.args.order)) (sym e) best) c.plan.ensures
