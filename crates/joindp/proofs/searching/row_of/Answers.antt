use Rattle.std.proofs.Common.{◌≡◌, ◌∙◌, [], ◌∷◌, None, Some, true, length, length-append, arith, subst, sym}
use Rattle.std.specs.List.{slice_get}
use Rattle.joins.specs.Orders.{Order}
use Rattle.joindp.specs.Search.{IsKept, is_order_of, plan_of}
use Rattle.code_costs.specs.View.{problem_of}
use Rattle.joindp.proofs.Rows.{element_is, index_within, one_more}
use Rattle.joindp.proofs.searching.row_of.Goals as goal

pub loop-index-preserved : goal.loop-index-preserved
loop-index-preserved g c =
    let p = problem_of c.args.inputs.now.problem.now in
    rw c.in_ok-push.ensures.items (record {
      long = let l = length-append c.loop-index.row.items (c.in_ok-best.best ∷ []) in omega (arith, l, c.loop-index.invariant.long);
      each = one_more (λ i b. (order : Order) → slice_get c.args.inputs.now.orders.now i ≡ Some order → is_order_of c.args.set order ≡ true → IsKept p c.args.set order (plan_of b))
          c.loop-index.row.items c.in_ok-best.best c.loop-index.index c.loop-index.invariant.long c.loop-index.invariant.each
          (λ order e fits.
          let same = element_is c.args.inputs.now.orders.now c.loop-index.index None order c.loop-index-test.true e in
          let fits' = subst (λ o. is_order_of c.args.set o ≡ true) same fits in
          subst (λ o. IsKept p c.args.set o (plan_of c.in_ok-best.best)) (sym same) (c.in_ok-best.ensures fits'));
    })

pub returns : goal.returns
returns g c =
    let n : c.loop-index.index ≡ length c.args.inputs.now.orders.now = omega (arith, c.loop-index-test.false) in
    λ reached. (c.loop-index.invariant.long ∙ n, λ i order d e. c.loop-index.invariant.each i d (let w = index_within c.args.inputs.now.orders.now i order e in omega (arith, w, n)) order e)
