use Rattle.std.proofs.Common.{◌≡◌, ◌-◌, ◌≤◌, None, Some, true, ap, refl, arith, length, slice_get}
use Rattle.joins.specs.Orders.{Order}
use Rattle.joindp.specs.Search.{entry_count, is_order_of, plan_of}
use Rattle.code_costs.specs.View.{problem_of}
use Rattle.joindp.proofs.LiveOrders.{best_as_kept, best_of_kept}
use Rattle.joindp.proofs.Rows.{kept_at, no_plan, row_is}
use Rattle.code_costs.proofs.Few.{few_of}
use Rattle.joindp.proofs.searching.best_in.Goals as goal

-- none is kept for the order
pub returns-in-None : goal.returns-in-None
returns-in-None g c =
    let inputs = c.args.inputs.now in
    let p = problem_of inputs.problem.now in
    let few : entry_count p ≤ 12 = few_of _ _ inputs.problem.now.setting.now.frame inputs.problem.now.few in
    let n = inputs.sized.0 in
    let nexts = inputs.nexts.now in
    let orders = inputs.orders.now in
    let row = c.index-table-count.result in
    let are = row_is p nexts orders c.args.low c.args.set c.args.table.now c.requires.table c.requires.above c.requires.within c.requires.reached (length inputs.sizes.now - 1 - c.args.set) row (omega (arith, n)) c.index-table-count.is in
    let best = λ (order : Order) (listed : slice_get orders c.args.index ≡ Some order) (fits : is_order_of c.args.set order ≡ true).
    best_of_kept p few c.args.set order (plan_of c.index.result.now) (plan_of c.index-in-None.result.now) (ap plan_of c.in-None.is)
    (kept_at p nexts orders c.args.low c.args.set c.args.table.now c.requires.table c.requires.above c.requires.within c.requires.reached row.items are c.args.index order c.index.result.now listed fits c.index.ensures)
    (kept_at p nexts orders c.args.low c.args.set c.args.table.now c.requires.table c.requires.above c.requires.within c.requires.reached row.items are inputs.none None c.index-in-None.result.now inputs.unordered refl c.index-in-None.ensures) in
    record { best = λ order listed fits. (best order listed fits).0; small = λ order listed fits. (best order listed fits).1 }

-- one is kept
pub returns-in_default : goal.returns-in_default
returns-in_default g c =
    let inputs = c.args.inputs.now in
    let p = problem_of inputs.problem.now in
    let few : entry_count p ≤ 12 = few_of _ _ inputs.problem.now.setting.now.frame inputs.problem.now.few in
    let n = inputs.sized.0 in
    let nexts = inputs.nexts.now in
    let orders = inputs.orders.now in
    let row = c.index-table-count.result in
    let are = row_is p nexts orders c.args.low c.args.set c.args.table.now c.requires.table c.requires.above c.requires.within c.requires.reached (length inputs.sizes.now - 1 - c.args.set) row (omega (arith, n)) c.index-table-count.is in
    let best = λ (order : Order) (listed : slice_get orders c.args.index ≡ Some order) (fits : is_order_of c.args.set order ≡ true).
    best_as_kept p few c.args.set order (plan_of c.index.result.now) (λ none. c.in_default.not-None (no_plan c.index.result.now none))
    (kept_at p nexts orders c.args.low c.args.set c.args.table.now c.requires.table c.requires.above c.requires.within c.requires.reached row.items are c.args.index order c.index.result.now listed fits c.index.ensures) in
    record { best = λ order listed fits. (best order listed fits).0; small = λ order listed fits. (best order listed fits).1 }
