use Rattle.std.proofs.Common.{◌≡◌, ℕ, ◌-◌, List, length, drop, map, replicate, Ok, IfOk, IfSome, sym, ap, subst, ◌∙◌, arith}
use Rattle.std.specs.Option.{is_some}
use Rattle.value.specs.declared.order.Truth.{Truth}
use Rattle.value.specs.declared.order.Truth.TheVariants.{False, True}
use Rattle.expr.specs.Bound as bound
use Rattle.expr.specs.View.{bound_expr_of, bound_exprs}
use Rattle.expr.specs.Weights.{weight}
use Rattle.expr.proofs.Operands.{not_is}
use Rattle.expr.proofs.Walks.{and_is, exprs_over, or_is}
use Rattle.eval.specs.Meaning.{conjunction, disjunction}
use Rattle.tuples.specs.Rows.{cells_of}
use Rattle.columns.specs.Rows.{types_of}
use Rattle.lane_filters.specs.ByLanes.{all_by_lanes}
use Rattle.lane_filters.specs.Outcomes.{AreTruths}
use Rattle.lane_filters.proofs.Members.{member_lighter, member_step, one_more, one_not, weaker}
use Rattle.lane_filters.proofs.Nodes.{and_truths, as_many_truths, no_conjunct, no_disjunct, not_truths, one_conjunct, one_disjunct, or_truths}
use Rattle.lane_filters.proofs.Pointwise.{as_many}
use Rattle.lane_filters.proofs.filters.+truths.Goals as goal

-- ---- AND

pub conjunction-loop-left-init : goal.conjunction-loop-left-init
conjunction-loop-left-init g t c =
    let es = c.args.members.now in
    let rows = c.args.table.now.rows in
    let over : bound_exprs (drop (length es) es) ≡ bound.no_expr = exprs_over es (length es) (omega arith) in
    record {
      within = omega arith;
      exact = ap (all_by_lanes (types_of c.args.table.now.columns)) over;
      known = no_conjunct c.args.role.now.name.now rows (bound_exprs (drop (length es) es)) over ∙ ap (map Ok) (sym (c.in_ok-known.ensures ∙ ap (λ (n : ℕ). replicate n True) c.row_count.ensures));
    }

pub conjunction-evaluated-requires : goal.conjunction-evaluated-requires
conjunction-evaluated-requires g t c κs within =
    let w = member_lighter c.args.members.now c.loop-left.left c.index-members-left.result c.loop-left-test.true c.loop-left.invariant.within c.index-members-left.is in
    (omega (arith, c.decreases, w), within)

pub conjunction-returns-in_default-clause-exact : goal.conjunction-returns-in_default-clause-exact
conjunction-returns-in_default-clause-exact g t c =
    one_not c.args.members.now c.loop-left.left c.index-members-left.result c.loop-left-test.true c.loop-left.invariant.within c.index-members-left.is (types_of c.args.table.now.columns)
    (sym (ap is_some c.in_default.is) ∙ c.in_ok-truths.ensures.exact)

pub conjunction-and-requires : goal.conjunction-and-requires
conjunction-and-requires g t c =
    let es = c.args.members.now in
    let rows = c.args.table.now.rows in
    let role = c.args.role.now.name.now in
    let truths = rw c.in-Some.is at c.in_ok-truths.ensures.truths in
    as_many (λ row. conjunction (cells_of row) role (bound_exprs (drop c.loop-left.left es))) rows c.loop-left.known c.loop-left.invariant.known
    ∙ sym (as_many_truths role rows (bound_expr_of c.index-members-left.result) c.in-Some.truths truths)

pub conjunction-loop-left-preserved : goal.conjunction-loop-left-preserved
conjunction-loop-left-preserved g t c =
    let es = c.args.members.now in
    let rows = c.args.table.now.rows in
    let left = c.loop-left.left in
    let e = c.index-members-left.result in
    record {
      within = omega (arith, c.loop-left.invariant.within);
      exact = one_more es left e c.loop-left-test.true c.loop-left.invariant.within c.index-members-left.is (types_of c.args.table.now.columns) c.loop-left.invariant.exact (sym (ap is_some c.in-Some.is) ∙ c.in_ok-truths.ensures.exact);
      known =
          let role = c.args.role.now.name.now in
          let truths = rw c.in-Some.is at c.in_ok-truths.ensures.truths in
          one_conjunct role rows (bound_expr_of e) (bound_exprs (drop left es)) (bound_exprs (drop (left - 1) es)) c.in-Some.truths c.loop-left.known
          (member_step es left e c.loop-left-test.true c.loop-left.invariant.within c.index-members-left.is) truths c.loop-left.invariant.known ∙ ap (map Ok) (sym c.and.ensures);
    }

pub conjunction-returns-clause-exact : goal.conjunction-returns-clause-exact
conjunction-returns-clause-exact g t c =
    let over : c.loop-left.left ≡ 0 = omega (arith, c.loop-left-test.false) in
    sym (sym (ap (λ (k : ℕ). all_by_lanes (types_of c.args.table.now.columns) (bound_exprs (drop k c.args.members.now))) over) ∙ c.loop-left.invariant.exact)

pub conjunction-returns-clause-truths : goal.conjunction-returns-clause-truths
conjunction-returns-clause-truths g t c =
    let role = c.args.role.now.name.now in
    let over : c.loop-left.left ≡ 0 = omega (arith, c.loop-left-test.false) in
    sym (ap (λ (k : ℕ). map (λ row. conjunction (cells_of row) role (bound_exprs (drop k c.args.members.now))) c.args.table.now.rows) over) ∙ c.loop-left.invariant.known

-- ---- OR

pub disjunction-loop-left-init : goal.disjunction-loop-left-init
disjunction-loop-left-init g t c =
    let es = c.args.members.now in
    let rows = c.args.table.now.rows in
    let over : bound_exprs (drop (length es) es) ≡ bound.no_expr = exprs_over es (length es) (omega arith) in
    record {
      within = omega arith;
      exact = ap (all_by_lanes (types_of c.args.table.now.columns)) over;
      known = no_disjunct c.args.role.now.name.now rows (bound_exprs (drop (length es) es)) over ∙ ap (map Ok) (sym (c.in_ok-known.ensures ∙ ap (λ (n : ℕ). replicate n False) c.row_count.ensures));
    }

pub disjunction-evaluated-requires : goal.disjunction-evaluated-requires
disjunction-evaluated-requires g t c κs within =
    let w = member_lighter c.args.members.now c.loop-left.left c.index-members-left.result c.loop-left-test.true c.loop-left.invariant.within c.index-members-left.is in
    (omega (arith, c.decreases, w), within)

pub disjunction-returns-in_default-clause-exact : goal.disjunction-returns-in_default-clause-exact
disjunction-returns-in_default-clause-exact g t c =
    one_not c.args.members.now c.loop-left.left c.index-members-left.result c.loop-left-test.true c.loop-left.invariant.within c.index-members-left.is (types_of c.args.table.now.columns)
    (sym (ap is_some c.in_default.is) ∙ c.in_ok-truths.ensures.exact)

pub disjunction-or-requires : goal.disjunction-or-requires
disjunction-or-requires g t c =
    let es = c.args.members.now in
    let rows = c.args.table.now.rows in
    let role = c.args.role.now.name.now in
    let truths = rw c.in-Some.is at c.in_ok-truths.ensures.truths in
    as_many (λ row. disjunction (cells_of row) role (bound_exprs (drop c.loop-left.left es))) rows c.loop-left.known c.loop-left.invariant.known
    ∙ sym (as_many_truths role rows (bound_expr_of c.index-members-left.result) c.in-Some.truths truths)

pub disjunction-loop-left-preserved : goal.disjunction-loop-left-preserved
disjunction-loop-left-preserved g t c =
    let es = c.args.members.now in
    let rows = c.args.table.now.rows in
    let left = c.loop-left.left in
    let e = c.index-members-left.result in
    record {
      within = omega (arith, c.loop-left.invariant.within);
      exact = one_more es left e c.loop-left-test.true c.loop-left.invariant.within c.index-members-left.is (types_of c.args.table.now.columns) c.loop-left.invariant.exact (sym (ap is_some c.in-Some.is) ∙ c.in_ok-truths.ensures.exact);
      known =
          let role = c.args.role.now.name.now in
          let truths = rw c.in-Some.is at c.in_ok-truths.ensures.truths in
          one_disjunct role rows (bound_expr_of e) (bound_exprs (drop left es)) (bound_exprs (drop (left - 1) es)) c.in-Some.truths c.loop-left.known
          (member_step es left e c.loop-left-test.true c.loop-left.invariant.within c.index-members-left.is) truths c.loop-left.invariant.known ∙ ap (map Ok) (sym c.or.ensures);
    }

pub disjunction-returns-clause-exact : goal.disjunction-returns-clause-exact
disjunction-returns-clause-exact g t c =
    let over : c.loop-left.left ≡ 0 = omega (arith, c.loop-left-test.false) in
    sym (sym (ap (λ (k : ℕ). all_by_lanes (types_of c.args.table.now.columns) (bound_exprs (drop k c.args.members.now))) over) ∙ c.loop-left.invariant.exact)

pub disjunction-returns-clause-truths : goal.disjunction-returns-clause-truths
disjunction-returns-clause-truths g t c =
    let role = c.args.role.now.name.now in
    let over : c.loop-left.left ≡ 0 = omega (arith, c.loop-left-test.false) in
    sym (ap (λ (k : ℕ). map (λ row. disjunction (cells_of row) role (bound_exprs (drop k c.args.members.now))) c.args.table.now.rows) over) ∙ c.loop-left.invariant.known

-- ---- nodes

pub evaluated-returns-in-Some-clause-truths : goal.evaluated-returns-in-Some-clause-truths
evaluated-returns-in-Some-clause-truths g t c =
    let role = c.args.role.now.name.now in
    let rows = c.args.table.now.rows in
    let e = c.deref-in-Not.result.now in
    let truths = rw c.in-Some.is at c.in_ok-truths-in-Not.ensures.truths in
    subst (λ (x : bound.BoundExpr). AreTruths role rows x c.negate.new.self) (sym (not_is c.args.expression.now c.in-Not.offset c.in-Not.operand e c.deref-in-Not.ensures c.in-Not.is))
    (subst (λ (ts : List Truth). AreTruths role rows (bound.Not c.in-Not.offset (bound_expr_of e)) ts) (sym c.negate.ensures)
    (not_truths role rows c.in-Not.offset (bound_expr_of e) c.in-Some.truths truths))

pub evaluated-conjunction-requires : goal.evaluated-conjunction-requires
evaluated-conjunction-requires g t c κs within =
    let w = ap weight (and_is c.args.expression.now c.in-And.offset c.in-And.members c.deref-in-And.result.now c.deref-in-And.ensures.value c.in-And.is) in
    (omega (arith, c.decreases, w), within)

pub evaluated-returns-in-And-clause-exact : goal.evaluated-returns-in-And-clause-exact
evaluated-returns-in-And-clause-exact g t c =
    rw (and_is c.args.expression.now c.in-And.offset c.in-And.members c.deref-in-And.result.now c.deref-in-And.ensures.value c.in-And.is) c.conjunction.ensures.exact

pub evaluated-returns-in-And-clause-truths : goal.evaluated-returns-in-And-clause-truths
evaluated-returns-in-And-clause-truths g t c =
    let role = c.args.role.now.name.now in
    let rows = c.args.table.now.rows in
    let es = bound_exprs c.deref-in-And.result.now in
    subst (λ (x : bound.BoundExpr). IfOk c.conjunction.result (λ o. IfSome o (λ ts. AreTruths role rows x ts)))
    (sym (and_is c.args.expression.now c.in-And.offset c.in-And.members c.deref-in-And.result.now c.deref-in-And.ensures.value c.in-And.is))
    (weaker c.conjunction.result (λ ts. map (λ row. conjunction (cells_of row) role es) rows ≡ map Ok ts) (λ ts. AreTruths role rows (bound.And c.in-And.offset es) ts)
    (λ ts h. and_truths role rows c.in-And.offset es ts h) c.conjunction.ensures.truths)

pub evaluated-disjunction-requires : goal.evaluated-disjunction-requires
evaluated-disjunction-requires g t c κs within =
    let w = ap weight (or_is c.args.expression.now c.in-Or.offset c.in-Or.members c.deref-in-Or.result.now c.deref-in-Or.ensures.value c.in-Or.is) in
    (omega (arith, c.decreases, w), within)

pub evaluated-returns-in-Or-clause-exact : goal.evaluated-returns-in-Or-clause-exact
evaluated-returns-in-Or-clause-exact g t c =
    rw (or_is c.args.expression.now c.in-Or.offset c.in-Or.members c.deref-in-Or.result.now c.deref-in-Or.ensures.value c.in-Or.is) c.disjunction.ensures.exact

pub evaluated-returns-in-Or-clause-truths : goal.evaluated-returns-in-Or-clause-truths
evaluated-returns-in-Or-clause-truths g t c =
    let role = c.args.role.now.name.now in
    let rows = c.args.table.now.rows in
    let es = bound_exprs c.deref-in-Or.result.now in
    subst (λ (x : bound.BoundExpr). IfOk c.disjunction.result (λ o. IfSome o (λ ts. AreTruths role rows x ts)))
    (sym (or_is c.args.expression.now c.in-Or.offset c.in-Or.members c.deref-in-Or.result.now c.deref-in-Or.ensures.value c.in-Or.is))
    (weaker c.disjunction.result (λ ts. map (λ row. disjunction (cells_of row) role es) rows ≡ map Ok ts) (λ ts. AreTruths role rows (bound.Or c.in-Or.offset es) ts)
    (λ ts h. or_truths role rows c.in-Or.offset es ts h) c.disjunction.ensures.truths)
