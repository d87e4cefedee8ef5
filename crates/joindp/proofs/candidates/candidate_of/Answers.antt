use Rattle.std.proofs.Common.{◌∙◌, ◌^◌, ◌≤◌, ◌<◌, ap, slice_index_or, arith}
use Rattle.code_costs.specs.Best.{estimates}
use Rattle.code_costs.specs.Cost.{step_cost_of}
use Rattle.joindp.specs.Search.{entry_count, set_of}
use Rattle.code_costs.specs.View.{problem_of}
use Rattle.joindp.proofs.Asked.{is_candidate}
use Rattle.code_costs.proofs.Few.{few_of}
use Rattle.joindp.proofs.Sized.{bit_within, few_sets}
use Rattle.joindp.proofs.candidates.candidate_of.Goals as goal

pub offset_bounds-inputs-bit : goal.offset_bounds-inputs-bit
offset_bounds-inputs-bit g c =
    let p = problem_of c.args.inputs.now.problem.now in
    let few : entry_count p ≤ 12 = few_of _ _ c.args.inputs.now.problem.now.setting.now.frame c.args.inputs.now.problem.now.few in
    let sets = few_sets p few in
    let b = bit_within p few (set_of c.args.set) c.args.step c.requires.allowed in
    rw (c.bit_of-bit.ensures, c.entry_index.ensures) (omega (arith, b, sets))

pub bounds-inputs-bit : goal.bounds-inputs-bit
bounds-inputs-bit g c =
    let p = problem_of c.args.inputs.now.problem.now in
    let few : entry_count p ≤ 12 = few_of _ _ c.args.inputs.now.problem.now.setting.now.frame c.args.inputs.now.problem.now.few in
    let b = bit_within p few (set_of c.args.set) c.args.step c.requires.allowed in
    let n = c.args.inputs.now.sized.0 in
    rw (c.bit_of-bit.ensures, c.entry_index.ensures) (omega (arith, b, n))

pub step_cost-requires-clause-right : goal.step_cost-requires-clause-right
step_cost-requires-clause-right g c =
    let p = problem_of c.args.inputs.now.problem.now in
    let few : entry_count p ≤ 12 = few_of _ _ c.args.inputs.now.problem.now.setting.now.frame c.args.inputs.now.problem.now.few in
    let b = bit_within p few (set_of c.args.set) c.args.step c.requires.allowed in
    let within : c.bit_of-bit.result < 2 ^ entry_count p = rw (c.bit_of-bit.ensures, c.entry_index.ensures) b in
    (c.args.inputs.now.sized.1 c.bit_of-bit.result within).1

pub returns-clause-candidate : goal.returns-clause-candidate
returns-clause-candidate g c =
    let p = problem_of c.args.inputs.now.problem.now in
    let few : entry_count p ≤ 12 = few_of _ _ c.args.inputs.now.problem.now.setting.now.frame c.args.inputs.now.problem.now.few in
    is_candidate p few c.args.inputs.now.orders.now c.args.inputs.now.sizes.now c.args.inputs.now.sized c.args.set c.requires.within
    record { step = c.args.step; bit = c.bit_of-bit.result; cost = c.step_cost.result; merge = c.merge_order-merge.result } c.requires.allowed (c.bit_of-bit.ensures ∙ ap (λ i. 2 ^ i) c.entry_index.ensures) c.merge_order-merge.ensures
    (c.step_cost.ensures.value ∙ ap (λ o. step_cost_of (estimates p) (slice_index_or c.args.inputs.now.sizes.now c.args.set 0) (slice_index_or c.args.inputs.now.sizes.now c.bit_of-bit.result 0) o c.args.step) c.asked.ensures) c.step_cost.ensures.small
