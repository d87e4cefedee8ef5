use Rattle.std.proofs.Common.{◌≡◌, ◌∙◌, ◌≤◌, ◌++◌, true, false, length, map, ap, ap₂, sym, subst}
use Rattle.std.specs.List.{list_any}
use Rattle.expr.specs.Codes.{Steps}
use Rattle.predicates.specs.Equalities.{is_never_true}
use Rattle.stats.specs.View.{stats_of}
use Rattle.trailcheck.specs.Admissible.{is_admissible, is_refuted}
use Rattle.trailcheck.specs.TuplesView.{guard_of}
use Rattle.code_costs.specs.Best.{IsLeast, estimates}
use Rattle.code_costs.specs.Cost.{cost}
use Rattle.joindp.specs.Search.{Start, entry_count, plan_of, search}
use Rattle.code_costs.specs.View.{problem_of}
use Rattle.joindp.specs.Walks.{IsBestFrom}
use Rattle.joindp.proofs.Chosen.{best_is_admissible, best_is_least, some_plan}
use Rattle.code_costs.proofs.Few.{few_of, first_of}
use Rattle.joindp.proofs.Sized.{fewer_of}
use Rattle.joindp.proofs.searching.search.Goals as goal

pub unwrap-best-requires : goal.unwrap-best-requires
unwrap-best-requires g c =
    let p = problem_of c.args.problem.now in
    let few : entry_count p ≤ 12 = few_of _ _ c.args.problem.now.setting.now.frame c.args.problem.now.few in
    let open' : is_refuted p.setting ≡ false = sym (c.some_never_true.ensures ∙ ap (list_any is_never_true) c.as_slice.ensures) ∙ c.if-some_never_true.false in
    some_plan p few open' c.in_ok-best_steps.field-0 c.in_ok-best_steps.ensures

pub cost-total-requires : goal.cost-total-requires
cost-total-requires g c =
    let problem = c.args.problem.now in
    let p = problem_of problem in
    let few : entry_count p ≤ 12 = few_of _ _ problem.setting.now.frame problem.few in
    let open' : is_refuted p.setting ≡ false = sym (c.some_never_true.ensures ∙ ap (list_any is_never_true) c.as_slice.ensures) ∙ c.if-some_never_true.false in
    let best = subst (λ o. IsBestFrom (search p) Start (plan_of o)) c.unwrap-best.ensures c.in_ok-best_steps.ensures in
    let steps = c.in_ok-steps.ensures ∙ ap₂ ◌++◌ c.as_slice-2.ensures c.as_slice-3.ensures in
    subst (λ us. is_admissible p.setting (Steps us) ≡ true) (sym steps) (best_is_admissible p few open' c.unwrap-best.result.cost c.unwrap-best.result.steps c.in_ok-tail.tail best c.in_ok-tail.ensures.admissible (fewer_of guard_of problem.setting.now.frame problem.among))

pub returns-clause-admissible : goal.returns-clause-admissible
returns-clause-admissible g c =
    let problem = c.args.problem.now in
    let p = problem_of problem in
    let few : entry_count p ≤ 12 = few_of _ _ problem.setting.now.frame problem.few in
    let open' : is_refuted p.setting ≡ false = sym (c.some_never_true.ensures ∙ ap (list_any is_never_true) c.as_slice.ensures) ∙ c.if-some_never_true.false in
    let best = subst (λ o. IsBestFrom (search p) Start (plan_of o)) c.unwrap-best.ensures c.in_ok-best_steps.ensures in
    let steps = c.in_ok-steps.ensures ∙ ap₂ ◌++◌ c.as_slice-2.ensures c.as_slice-3.ensures in
    subst (λ us. is_admissible p.setting (Steps us) ≡ true) (sym steps) (best_is_admissible p few open' c.unwrap-best.result.cost c.unwrap-best.result.steps c.in_ok-tail.tail best c.in_ok-tail.ensures.admissible (fewer_of guard_of problem.setting.now.frame problem.among))

pub returns-clause-least : goal.returns-clause-least
returns-clause-least g c =
    let problem = c.args.problem.now in
    let p = problem_of problem in
    let few : entry_count p ≤ 12 = few_of _ _ problem.setting.now.frame problem.few in
    let open' : is_refuted p.setting ≡ false = sym (c.some_never_true.ensures ∙ ap (list_any is_never_true) c.as_slice.ensures) ∙ c.if-some_never_true.false in
    let best = subst (λ o. IsBestFrom (search p) Start (plan_of o)) c.unwrap-best.ensures c.in_ok-best_steps.ensures in
    let steps = c.in_ok-steps.ensures ∙ ap₂ ◌++◌ c.as_slice-2.ensures c.as_slice-3.ensures in
    let first = first_of _ (λ s. stats_of s.now) guard_of problem.statistics.now problem.setting.now.frame problem.each in
    subst (λ n. IsLeast p n (Steps c.in_ok-steps.steps)) (sym c.cost-total.ensures)
    (subst (λ us. IsLeast p (cost (estimates p) (Steps us)) (Steps us)) (sym steps)
    (best_is_least p few open' c.unwrap-best.result.cost c.unwrap-best.result.steps c.in_ok-tail.tail best c.in_ok-tail.ensures.admissible first c.in_ok-tail.ensures.least))
