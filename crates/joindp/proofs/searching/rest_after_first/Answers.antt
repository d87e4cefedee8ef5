use Rattle.std.proofs.Common.{◌≡◌, ◌∙◌, ◌^◌, ◌≤◌, ap, ap₂, sym, subst, arith, true, false, Some}
use Rattle.joins.specs.Orders.{order_of}
use Rattle.joindp.specs.Search.{After, entry_count, is_order_of, live_order, plan_of, search, set_of}
use Rattle.code_costs.specs.View.{problem_of}
use Rattle.joindp.specs.Walks.{IsBestFrom}
use Rattle.trailcheck.specs.Shapes.{entry_index}
use Rattle.joindp.proofs.LiveOrders.{best_by_live, live_fits}
use Rattle.joindp.proofs.NewSteps.{is_new}
use Rattle.joindp.proofs.Reached.{first_fits, reached_first}
use Rattle.joindp.proofs.Rows.{index_within}
use Rattle.code_costs.proofs.Few.{few_of}
use Rattle.joindp.proofs.Sized.{bit_within, few_sets, smaller}
use Rattle.joindp.proofs.searching.rest_after_first.Goals as goal

pub best_in-requires-clause-within : goal.best_in-requires-clause-within
best_in-requires-clause-within g c =
    let p = problem_of c.args.inputs.now.problem.now in
    let few : entry_count p ≤ 12 = few_of _ _ c.args.inputs.now.problem.now.setting.now.frame c.args.inputs.now.problem.now.few in
    rw (c.bit_of-set.ensures, c.entry_index-entry.ensures) (bit_within p few (λ entry. false) c.args.step c.requires.allowed)

pub best_in-requires-clause-reached : goal.best_in-requires-clause-reached
best_in-requires-clause-reached g c =
    let p = problem_of c.args.inputs.now.problem.now in
    let few : entry_count p ≤ 12 = few_of _ _ c.args.inputs.now.problem.now.setting.now.frame c.args.inputs.now.problem.now.few in
    rw (c.bit_of-set.ensures, c.entry_index-entry.ensures) (reached_first p c.args.inputs.now.nexts.now c.args.inputs.now.following few c.args.step c.requires.allowed)

pub best_in-requires-clause-index : goal.best_in-requires-clause-index
best_in-requires-clause-index g c = index_within c.args.inputs.now.orders.now c.live_index-index.result _ c.live_index-index.ensures

pub returns-clause-best : goal.returns-clause-best
returns-clause-best g c =
    let p = problem_of c.args.inputs.now.problem.now in
    let i = entry_index c.args.step in
    let few : entry_count p ≤ 12 = few_of _ _ c.args.inputs.now.problem.now.setting.now.frame c.args.inputs.now.problem.now.few in
    let new = is_new p.setting (λ entry. false) c.args.step c.requires.allowed in
    let set = c.bit_of-set.ensures ∙ ap (λ k. 2 ^ k) c.entry_index-entry.ensures in
    let order = c.order_of.ensures ∙ ap (λ k. order_of k c.args.step.access) c.entry_index-entry.ensures in
    let live = live_order p (set_of (2 ^ i)) (order_of i c.args.step.access) in
    let there = c.live_index-index.ensures ∙ ap₂ (λ n o. Some (live_order p (set_of n) o)) set order in
    let fits : is_order_of (2 ^ i) live ≡ true = live_fits p few (2 ^ i) (order_of i c.args.step.access) (first_fits i c.args.step.access (omega (arith, few, new.below))) in
    best_by_live p few (2 ^ i) (order_of i c.args.step.access) (plan_of c.best_in.result.now)
    (subst (λ n. IsBestFrom (search p) (After n live) (plan_of c.best_in.result.now)) set (c.best_in.ensures.best live there (subst (λ n. is_order_of n live ≡ true) (sym set) fits)))

pub returns-clause-small : goal.returns-clause-small
returns-clause-small g c =
    let p = problem_of c.args.inputs.now.problem.now in
    let i = entry_index c.args.step in
    let few : entry_count p ≤ 12 = few_of _ _ c.args.inputs.now.problem.now.setting.now.frame c.args.inputs.now.problem.now.few in
    let sets = few_sets p few in
    let new = is_new p.setting (λ entry. false) c.args.step c.requires.allowed in
    let set = c.bit_of-set.ensures ∙ ap (λ k. 2 ^ k) c.entry_index-entry.ensures in
    let order = c.order_of.ensures ∙ ap (λ k. order_of k c.args.step.access) c.entry_index-entry.ensures in
    let live = live_order p (set_of (2 ^ i)) (order_of i c.args.step.access) in
    let there = c.live_index-index.ensures ∙ ap₂ (λ n o. Some (live_order p (set_of n) o)) set order in
    let fits : is_order_of (2 ^ i) live ≡ true = live_fits p few (2 ^ i) (order_of i c.args.step.access) (first_fits i c.args.step.access (omega (arith, few, new.below))) in
    smaller _ 4096 (plan_of c.best_in.result.now) (omega (arith, sets)) (c.best_in.ensures.small live there (subst (λ n. is_order_of n live ≡ true) (sym set) fits))
