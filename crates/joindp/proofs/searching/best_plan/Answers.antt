use Rattle.std.proofs.Common.{◌≡◌, ◌∙◌, ◌-◌, arith, sym, subst}
use Rattle.joindp.specs.Search.{IsTable, plan_of}
use Rattle.code_costs.specs.View.{problem_of}
use Rattle.joindp.proofs.Rows.{best_of_none, table_more}
use Rattle.joindp.proofs.searching.best_plan.Goals as goal

pub loop-set-preserved : goal.loop-set-preserved
loop-set-preserved g c =
    rw c.in_ok-push.ensures.items
    (table_more (problem_of c.args.inputs.now.problem.now) c.args.inputs.now.nexts.now c.args.inputs.now.orders.now (c.loop-set.set - 1) c.loop-set.table.items c.in_ok-row.row (omega arith) c.loop-set.invariant c.in_ok-row.ensures)

pub returns-then-count-eq1 : goal.returns-then-count-eq1
returns-then-count-eq1 g c =
    let n = c.args.inputs.now.sized.0 in
    best_of_none (problem_of c.args.inputs.now.problem.now) (plan_of c.at_end.result) (sym n ∙ c.if-count-eq1.true) c.at_end.ensures.value

pub best_of_all-requires-clause-table : goal.best_of_all-requires-clause-table
best_of_all-requires-clause-table g c =
    let p = problem_of c.args.inputs.now.problem.now in
    let over : c.loop-set.set - 1 ≡ 0 = omega (arith, c.loop-set-test.false) in
    rw c.deref-2.ensures.value (subst (λ set. IsTable p c.args.inputs.now.nexts.now c.args.inputs.now.orders.now set c.loop-set.table.items) over c.loop-set.invariant)
