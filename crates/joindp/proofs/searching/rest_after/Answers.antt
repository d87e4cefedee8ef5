use Rattle.std.proofs.Common.{◌∙◌, ◌+◌, ◌^◌, ◌≤◌, ◌≡◌, ap, sym, subst, true, arith}
use Rattle.std.specs.List.{slice_get}
use Rattle.std.proofs.lemmas.Nat.{pow_pos}
use Rattle.trailcheck.specs.Shapes.{entry_index}
use Rattle.joindp.specs.Candidates.{index_after}
use Rattle.joins.specs.Orders.{order_after}
use Rattle.joindp.specs.Search.{After, entry_count, is_order_of, plan_of, search, set_of}
use Rattle.code_costs.specs.View.{problem_of}
use Rattle.joindp.specs.Walks.{IsBestFrom}
use Rattle.joindp.proofs.NewSteps.{is_new}
use Rattle.joindp.proofs.Reached.{order_fits, reached_after}
use Rattle.joindp.proofs.Rows.{index_within}
use Rattle.code_costs.proofs.Few.{few_of}
use Rattle.joindp.proofs.Sized.{bit_within, few_sets, set_after, smaller}
use Rattle.joindp.proofs.searching.rest_after.Goals as goal

pub overflow_add-set : goal.overflow_add-set
overflow_add-set g c =
    let p = problem_of c.args.inputs.now.problem.now in
    let few : entry_count p ≤ 12 = few_of _ _ c.args.inputs.now.problem.now.setting.now.frame c.args.inputs.now.problem.now.few in
    let sets = few_sets p few in
    let b = bit_within p few (set_of c.args.set) c.args.candidate.now.step c.requires.allowed in
    rw c.requires.candidate.bit (omega (arith, b, sets, c.requires.within))

pub best_in-requires-clause-within : goal.best_in-requires-clause-within
best_in-requires-clause-within g c =
    let p = problem_of c.args.inputs.now.problem.now in
    let few : entry_count p ≤ 12 = few_of _ _ c.args.inputs.now.problem.now.setting.now.frame c.args.inputs.now.problem.now.few in
    rw c.requires.candidate.bit (set_after p few c.args.set c.args.candidate.now.step c.requires.within c.requires.allowed)

pub best_in-requires-clause-reached : goal.best_in-requires-clause-reached
best_in-requires-clause-reached g c =
    let p = problem_of c.args.inputs.now.problem.now in
    let few : entry_count p ≤ 12 = few_of _ _ c.args.inputs.now.problem.now.setting.now.frame c.args.inputs.now.problem.now.few in
    rw c.requires.candidate.bit (reached_after p c.args.inputs.now.nexts.now c.args.inputs.now.following few c.args.set c.args.candidate.now.step c.requires.within c.requires.allowed c.requires.reached)

pub best_in-requires-clause-index : goal.best_in-requires-clause-index
best_in-requires-clause-index g c =
    let orders = c.args.inputs.now.orders.now in
    rw c.index_after-next.ensures (index_within orders (index_after c.args.index c.args.candidate.now.merge) _ (c.requires.candidate.order c.args.index c.args.order c.requires.order))

pub returns-clause-best : goal.returns-clause-best
returns-clause-best g c =
    let p = problem_of c.args.inputs.now.problem.now in
    let s = c.args.candidate.now.step in
    let few : entry_count p ≤ 12 = few_of _ _ c.args.inputs.now.problem.now.setting.now.frame c.args.inputs.now.problem.now.few in
    let new = is_new p.setting (set_of c.args.set) s c.requires.allowed in
    let next = order_after p.setting.conditions (entry_index s) c.args.order s.method in
    let there = ap (slice_get c.args.inputs.now.orders.now) c.index_after-next.ensures ∙ c.requires.candidate.order c.args.index c.args.order c.requires.order in
    let fits : is_order_of (c.args.set + 2 ^ entry_index s) next ≡ true = order_fits c.args.set (entry_index s) (omega (arith, few, new.below)) new.new p c.args.order s.method c.requires.fits new.method in
    let set = ap (λ b. c.args.set + b) c.requires.candidate.bit in
    subst (λ n. IsBestFrom (search p) (After n next) (plan_of c.best_in.result.now)) set (c.best_in.ensures.best next there (subst (λ n. is_order_of n next ≡ true) (sym set) fits))

pub returns-clause-small : goal.returns-clause-small
returns-clause-small g c =
    let p = problem_of c.args.inputs.now.problem.now in
    let s = c.args.candidate.now.step in
    let few : entry_count p ≤ 12 = few_of _ _ c.args.inputs.now.problem.now.setting.now.frame c.args.inputs.now.problem.now.few in
    let new = is_new p.setting (set_of c.args.set) s c.requires.allowed in
    let next = order_after p.setting.conditions (entry_index s) c.args.order s.method in
    let there = ap (slice_get c.args.inputs.now.orders.now) c.index_after-next.ensures ∙ c.requires.candidate.order c.args.index c.args.order c.requires.order in
    let fits : is_order_of (c.args.set + 2 ^ entry_index s) next ≡ true = order_fits c.args.set (entry_index s) (omega (arith, few, new.below)) new.new p c.args.order s.method c.requires.fits new.method in
    let set = ap (λ b. c.args.set + b) c.requires.candidate.bit in
    let more = pow_pos (entry_index s) in
    smaller _ _ (plan_of c.best_in.result.now) (omega (arith, c.requires.candidate.bit, more)) (c.best_in.ensures.small next there (subst (λ n. is_order_of n next ≡ true) (sym set) fits))
