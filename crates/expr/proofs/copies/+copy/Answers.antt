use borrow.Author.Count.{falls}
use Rattle.std.proofs.Common.{◌∙◌, ap, length, map, sym, refl, arith}
use Rattle.std.proofs.Math.Nat.{le_refl}
use Rattle.std.proofs.lemmas.Result.{IfOk-from_err}
use Rattle.value.specs.Datum.{datum}
use Rattle.expr.specs.Bound as bound
use Rattle.expr.specs.Bound.{bound_exprs_of, bound_arms_of}
use Rattle.expr.specs.View.{bound_expr_of, bound_exprs, bound_arm_pair, bound_arms}
use Rattle.expr.specs.Weights.{weight, all_weight, arms_weight}
use Rattle.expr.proofs.Walks.{and_is, or_is, case_none, case_some, case_lighter, exprs_still, arms_still, exprs_lighter, when_lighter, result_lighter}
use Rattle.expr.proofs.Copied.{copied_first, copied_next, copied_over, made_of, copied_as, between_copied, in_copied}
use Rattle.expr.proofs.Operands.{negate_is, in_is, is_null_is, not_is, cast_is, call_is, arithmetic_is, comparison_is, between_is}
use Rattle.memory.proofs.Lighter.{lighter, left_lighter, right_lighter, middle_lighter, last_lighter}
use Rattle.expr.proofs.copies.+copy.Goals as goal

pub copy_members-copy_expr-requires : goal.copy_members-copy_expr-requires
copy_members-copy_expr-requires g t c κs within = let w = exprs_lighter c.args.members.now c.loop-member.member-index c.member-item.result c.loop-member-test.true c.member-item.is c.loop-member.invariant.lighter in (omega (arith, c.decreases, w), within)

pub copy_members-loop-member-preserved : goal.copy_members-loop-member-preserved
copy_members-loop-member-preserved g t c = record {
  rest = copied_next bound_expr_of c.args.members.now c.loop-member.member-index c.loop-member.all _ c.loop-member.invariant.rest c.member-item.result c.loop-member-test.true c.member-item.is _ _ c.in_ok-push-in-Ok.ensures.ok (ap bound_expr_of c.into_inner.ensures ∙ c.in-Ok.ensures);
  lighter = exprs_still c.args.members.now c.loop-member.member-index c.member-item.result c.loop-member-test.true c.member-item.is c.loop-member.invariant.lighter;
}

pub copy_members-returns : goal.copy_members-returns
copy_members-returns g t c = rw c.into_vec.ensures (ap bound_exprs_of (copied_over bound_expr_of c.args.members.now c.loop-member.member-index c.loop-member.all _ c.loop-member.invariant.rest (omega (arith, c.loop-member-test.false))))

pub copy_arms-copy_expr-when-requires : goal.copy_arms-copy_expr-when-requires
copy_arms-copy_expr-when-requires g t c κs within = let w = when_lighter c.args.arms.now c.loop-next.next-index c.next-item.result c.loop-next-test.true c.next-item.is c.loop-next.invariant.lighter in (omega (arith, c.decreases, w), within)

pub copy_arms-copy_expr-result-requires : goal.copy_arms-copy_expr-result-requires
copy_arms-copy_expr-result-requires g t c κs within = let w = result_lighter c.args.arms.now c.loop-next.next-index c.next-item.result c.loop-next-test.true c.next-item.is c.loop-next.invariant.lighter in (omega (arith, c.decreases, w), within)

pub copy_arms-loop-next-preserved : goal.copy_arms-loop-next-preserved
copy_arms-loop-next-preserved g t c = record {
  rest = copied_next bound_arm_pair c.args.arms.now c.loop-next.next-index c.loop-next.all _ c.loop-next.invariant.rest c.next-item.result c.loop-next-test.true c.next-item.is c.in-Ok.arm _ c.in_ok-push-in-Ok.ensures.ok (c.in-Ok.ensures _ _ c.copy_expr-when.ensures c.copy_expr-result.ensures);
  lighter = arms_still c.args.arms.now c.loop-next.next-index c.next-item.result c.loop-next-test.true c.next-item.is c.loop-next.invariant.lighter;
}

pub copy_arms-returns : goal.copy_arms-returns
copy_arms-returns g t c = rw c.into_vec.ensures (ap bound_arms_of (copied_over bound_arm_pair c.args.arms.now c.loop-next.next-index c.loop-next.all _ c.loop-next.invariant.rest (omega (arith, c.loop-next-test.false))))

pub copy_arms-loop-next-smaller : goal.copy_arms-loop-next-smaller
copy_arms-loop-next-smaller g t c = falls (length c.args.arms.now) c.loop-next.next-index c.loop-next-test.true

pub copy_arms-returns-in_err-push-in-Ok : goal.copy_arms-returns-in_err-push-in-Ok
copy_arms-returns-in_err-push-in-Ok g t c = IfOk-from_err c.from_residual.result _ c.from_residual.ensures.0

pub copy_members-loop-member-smaller : goal.copy_members-loop-member-smaller
copy_members-loop-member-smaller g t c = falls (length c.args.members.now) c.loop-member.member-index c.loop-member-test.true

pub copy_members-returns-in_err-push-in-Ok : goal.copy_members-returns-in_err-push-in-Ok
copy_members-returns-in_err-push-in-Ok g t c = IfOk-from_err c.from_residual.result _ c.from_residual.ensures.0

pub copy_members-loop-member-init : goal.copy_members-loop-member-init
copy_members-loop-member-init g t c = record {
  rest = copied_first bound_expr_of c.args.members.now _ c.new-all.ensures;
  lighter = le_refl (all_weight (bound_exprs c.args.members.now));
}

pub copy_members-offset_bounds-members-member-index : goal.copy_members-offset_bounds-members-member-index
copy_members-offset_bounds-members-member-index g t c = c.loop-member.auto.member-index-end

pub copy_members-bounds-members-member-index : goal.copy_members-bounds-members-member-index
copy_members-bounds-members-member-index g t c = c.loop-member-test.true

pub copy_arms-loop-next-init : goal.copy_arms-loop-next-init
copy_arms-loop-next-init g t c = record {
  rest = copied_first bound_arm_pair c.args.arms.now _ c.new-all.ensures;
  lighter = le_refl (arms_weight (bound_arms c.args.arms.now));
}

pub copy_arms-offset_bounds-arms-next-index : goal.copy_arms-offset_bounds-arms-next-index
copy_arms-offset_bounds-arms-next-index g t c = c.loop-next.auto.next-index-end

pub copy_arms-bounds-arms-next-index : goal.copy_arms-bounds-arms-next-index
copy_arms-bounds-arms-next-index g t c = c.loop-next-test.true

-- ---- nodes

pub copy_expr-returns-in-Column : goal.copy_expr-returns-in-Column
copy_expr-returns-in-Column g t c = made_of c.boxed.result _ _ (sym (ap bound_expr_of c.in-Column.is)) c.boxed.ensures

pub copy_expr-returns-in-CurrentUser : goal.copy_expr-returns-in-CurrentUser
copy_expr-returns-in-CurrentUser g t c = made_of c.boxed-in-CurrentUser.result _ _ (sym (ap bound_expr_of c.in-CurrentUser.is)) c.boxed-in-CurrentUser.ensures

pub copy_expr-returns-in-CountStar : goal.copy_expr-returns-in-CountStar
copy_expr-returns-in-CountStar g t c = made_of c.boxed-in-CountStar.result _ _ (sym (ap bound_expr_of c.in-CountStar.is)) c.boxed-in-CountStar.ensures

pub copy_expr-returns-in-Literal : goal.copy_expr-returns-in-Literal
copy_expr-returns-in-Literal g t c = copied_as c.literal.result _ _ (ap bound_expr_of c.in-Literal.is) (c.literal.ensures _ c.copy.ensures)

pub copy_expr-returns-in-Negate : goal.copy_expr-returns-in-Negate
copy_expr-returns-in-Negate g t c = copied_as c.negation.result _ _ (negate_is c.args.expression.now c.in-Negate.offset c.in-Negate.operand c.deref.result.now c.deref.ensures c.in-Negate.is) (c.negation.ensures _ c.copy_expr.ensures)

pub copy_expr-returns-in-IsNull : goal.copy_expr-returns-in-IsNull
copy_expr-returns-in-IsNull g t c = copied_as c.null_check.result _ _ (is_null_is c.args.expression.now c.in-IsNull.offset c.in-IsNull.operand c.deref-in-IsNull.result.now c.deref-in-IsNull.ensures c.in-IsNull.negated c.in-IsNull.is) (c.null_check.ensures _ c.copy_expr-in-IsNull.ensures)

pub copy_expr-returns-in-Not : goal.copy_expr-returns-in-Not
copy_expr-returns-in-Not g t c = copied_as c.logical_not.result _ _ (not_is c.args.expression.now c.in-Not.offset c.in-Not.operand c.deref-in-Not.result.now c.deref-in-Not.ensures c.in-Not.is) (c.logical_not.ensures _ c.copy_expr-in-Not.ensures)

pub copy_expr-returns-in-Cast : goal.copy_expr-returns-in-Cast
copy_expr-returns-in-Cast g t c = copied_as c.cast.result _ _ (cast_is c.args.expression.now c.in-Cast.offset c.in-Cast.operand c.deref-in-Cast.result.now c.deref-in-Cast.ensures c.in-Cast.to c.in-Cast.is) (c.cast.ensures _ c.copy_expr-in-Cast.ensures)

pub copy_expr-returns-in-Call : goal.copy_expr-returns-in-Call
copy_expr-returns-in-Call g t c = copied_as c.call.result _ _ (call_is c.args.expression.now c.in-Call.offset c.in-Call.argument c.deref-in-Call.result.now c.deref-in-Call.ensures c.in-Call.aggregate c.in-Call.is) (c.call.ensures _ c.copy_expr-in-Call.ensures)

pub copy_expr-returns-in_ok-left-in-Arithmetic : goal.copy_expr-returns-in_ok-left-in-Arithmetic
copy_expr-returns-in_ok-left-in-Arithmetic g t c = copied_as c.arithmetic.result _ _ (arithmetic_is c.args.expression.now c.in-Arithmetic.offset c.in-Arithmetic.left c.in-Arithmetic.right c.deref-in-Arithmetic.result.now c.deref-in-Arithmetic.ensures c.deref-in-Arithmetic-2.result.now c.deref-in-Arithmetic-2.ensures c.in-Arithmetic.operator c.in-Arithmetic.is ∙ ap (λ l. bound.Arithmetic c.in-Arithmetic.operator c.in-Arithmetic.offset l (bound_expr_of c.deref-in-Arithmetic-2.result.now)) (sym c.in_ok-left-in-Arithmetic.ensures)) (c.arithmetic.ensures _ c.copy_expr-in-Arithmetic-2.ensures)

pub copy_expr-returns-in_ok-left-in-Comparison : goal.copy_expr-returns-in_ok-left-in-Comparison
copy_expr-returns-in_ok-left-in-Comparison g t c = copied_as c.comparison.result _ _ (comparison_is c.args.expression.now c.in-Comparison.offset c.in-Comparison.left c.in-Comparison.right c.deref-in-Comparison.result.now c.deref-in-Comparison.ensures c.deref-in-Comparison-2.result.now c.deref-in-Comparison-2.ensures c.in-Comparison.operator c.in-Comparison.is ∙ ap (λ l. bound.Comparison c.in-Comparison.operator c.in-Comparison.offset l (bound_expr_of c.deref-in-Comparison-2.result.now)) (sym c.in_ok-left-in-Comparison.ensures)) (c.comparison.ensures _ c.copy_expr-in-Comparison-2.ensures)

pub copy_expr-returns-in_ok-low-in-Between : goal.copy_expr-returns-in_ok-low-in-Between
copy_expr-returns-in_ok-low-in-Between g t c = copied_as c.between.result _ _ (between_copied c.in-Between.negated c.in-Between.offset _ _ _ _ _ _ (between_is c.args.expression.now c.in-Between.negated c.in-Between.offset c.in-Between.operand c.in-Between.low c.in-Between.high c.in-Between.is c.deref-in-Between.result.now c.deref-in-Between.ensures c.deref-in-Between-2.result.now c.deref-in-Between-2.ensures c.deref-in-Between-3.result.now c.deref-in-Between-3.ensures) c.in_ok-operand-in-Between.ensures c.in_ok-low-in-Between.ensures) (c.between.ensures _ c.copy_expr-in-Between-3.ensures)

pub copy_expr-returns-in-In : goal.copy_expr-returns-in-In
copy_expr-returns-in-In g t c = copied_as c.membership.result _ _ (in_copied c.in-In.negated c.in-In.offset _ _ _ _ (in_is c.args.expression.now c.in-In.negated c.in-In.offset c.in-In.values c.in-In.operand c.in-In.is c.deref-in-In.result.now c.deref-in-In.ensures) (ap (map datum) c.as_slice.ensures)) (c.membership.ensures _ c.copy_expr-operand.ensures)

pub copy_expr-returns-in-And : goal.copy_expr-returns-in-And
copy_expr-returns-in-And g t c = rw (and_is c.args.expression.now c.in-And.offset c.in-And.members c.deref-in-And.result.now c.deref-in-And.ensures.value c.in-And.is) (c.conjunction.ensures _ c.copy_members.ensures)

pub copy_expr-returns-in-Or : goal.copy_expr-returns-in-Or
copy_expr-returns-in-Or g t c = rw (or_is c.args.expression.now c.in-Or.offset c.in-Or.members c.deref-in-Or.result.now c.deref-in-Or.ensures.value c.in-Or.is) (c.disjunction.ensures _ c.copy_members-in-Or.ensures)

pub copy_expr-returns-in-Some : goal.copy_expr-returns-in-Some
copy_expr-returns-in-Some g t c =
    rw (case_some c.args.expression.now c.in-Case.offset c.in-Case.arms c.deref-in-Case.result.now c.deref-in-Case.ensures.value c.in-Case.otherwise c.in-Case.is c.in-Some.value c.in-Some.is)
    (c.with_otherwise.ensures _ _ c.copy_arms-arms.ensures (rw c.deref-in-Some.ensures at c.copy_expr-value.ensures))

pub copy_expr-returns-in-None : goal.copy_expr-returns-in-None
copy_expr-returns-in-None g t c =
    rw (case_none c.args.expression.now c.in-Case.offset c.in-Case.arms c.deref-in-Case.result.now c.deref-in-Case.ensures.value c.in-Case.otherwise c.in-Case.is c.in-None.is) (c.without_otherwise.ensures _ c.copy_arms-arms.ensures)

-- ---- no memory

pub copy_expr-returns-in_err-left-in-Arithmetic : goal.copy_expr-returns-in_err-left-in-Arithmetic
copy_expr-returns-in_err-left-in-Arithmetic g t c = IfOk-from_err c.from_residual.result _ c.from_residual.ensures.0

pub copy_expr-returns-in_err-left-in-Comparison : goal.copy_expr-returns-in_err-left-in-Comparison
copy_expr-returns-in_err-left-in-Comparison g t c = IfOk-from_err c.from_residual-in_err-left-in-Comparison.result _ c.from_residual-in_err-left-in-Comparison.ensures.0

pub copy_expr-returns-in_err-operand-in-Between : goal.copy_expr-returns-in_err-operand-in-Between
copy_expr-returns-in_err-operand-in-Between g t c = IfOk-from_err c.from_residual-in_err-operand-in-Between.result _ c.from_residual-in_err-operand-in-Between.ensures.0

pub copy_expr-returns-in_err-low-in-Between : goal.copy_expr-returns-in_err-low-in-Between
copy_expr-returns-in_err-low-in-Between g t c = IfOk-from_err c.from_residual-in_err-low-in-Between.result _ c.from_residual-in_err-low-in-Between.ensures.0

-- ---- each call is on less

pub copy_expr-copy_expr-requires : goal.copy_expr-copy_expr-requires
copy_expr-copy_expr-requires g t c κs within = (lighter (weight (bound_expr_of c.deref.result.now)) _ t c.decreases (ap weight (negate_is c.args.expression.now c.in-Negate.offset c.in-Negate.operand c.deref.result.now c.deref.ensures c.in-Negate.is)), within)

pub copy_expr-copy_expr-requires-in-IsNull : goal.copy_expr-copy_expr-requires-in-IsNull
copy_expr-copy_expr-requires-in-IsNull g t c κs within = (lighter (weight (bound_expr_of c.deref-in-IsNull.result.now)) _ t c.decreases (ap weight (is_null_is c.args.expression.now c.in-IsNull.offset c.in-IsNull.operand c.deref-in-IsNull.result.now c.deref-in-IsNull.ensures c.in-IsNull.negated c.in-IsNull.is)), within)

pub copy_expr-copy_expr-requires-in-Not : goal.copy_expr-copy_expr-requires-in-Not
copy_expr-copy_expr-requires-in-Not g t c κs within = (lighter (weight (bound_expr_of c.deref-in-Not.result.now)) _ t c.decreases (ap weight (not_is c.args.expression.now c.in-Not.offset c.in-Not.operand c.deref-in-Not.result.now c.deref-in-Not.ensures c.in-Not.is)), within)

pub copy_expr-copy_expr-requires-in-Cast : goal.copy_expr-copy_expr-requires-in-Cast
copy_expr-copy_expr-requires-in-Cast g t c κs within = (lighter (weight (bound_expr_of c.deref-in-Cast.result.now)) _ t c.decreases (ap weight (cast_is c.args.expression.now c.in-Cast.offset c.in-Cast.operand c.deref-in-Cast.result.now c.deref-in-Cast.ensures c.in-Cast.to c.in-Cast.is)), within)

pub copy_expr-copy_expr-requires-in-Call : goal.copy_expr-copy_expr-requires-in-Call
copy_expr-copy_expr-requires-in-Call g t c κs within = (lighter (weight (bound_expr_of c.deref-in-Call.result.now)) _ t c.decreases (ap weight (call_is c.args.expression.now c.in-Call.offset c.in-Call.argument c.deref-in-Call.result.now c.deref-in-Call.ensures c.in-Call.aggregate c.in-Call.is)), within)

pub copy_expr-copy_expr-operand-requires : goal.copy_expr-copy_expr-operand-requires
copy_expr-copy_expr-operand-requires g t c κs within = (lighter (weight (bound_expr_of c.deref-in-In.result.now)) _ t c.decreases (ap weight (in_is c.args.expression.now c.in-In.negated c.in-In.offset c.in-In.values c.in-In.operand c.in-In.is c.deref-in-In.result.now c.deref-in-In.ensures)), within)

pub copy_expr-copy_expr-requires-in-Arithmetic : goal.copy_expr-copy_expr-requires-in-Arithmetic
copy_expr-copy_expr-requires-in-Arithmetic g t c κs within = (left_lighter (weight (bound_expr_of c.deref-in-Arithmetic.result.now)) _ t c.decreases _ (ap weight (arithmetic_is c.args.expression.now c.in-Arithmetic.offset c.in-Arithmetic.left c.in-Arithmetic.right c.deref-in-Arithmetic.result.now c.deref-in-Arithmetic.ensures c.in-Arithmetic.right.value refl c.in-Arithmetic.operator c.in-Arithmetic.is)), within)

pub copy_expr-copy_expr-requires-in-Arithmetic-2 : goal.copy_expr-copy_expr-requires-in-Arithmetic-2
copy_expr-copy_expr-requires-in-Arithmetic-2 g t c κs within = (right_lighter (weight (bound_expr_of c.deref-in-Arithmetic-2.result.now)) _ t c.decreases _ (ap weight (arithmetic_is c.args.expression.now c.in-Arithmetic.offset c.in-Arithmetic.left c.in-Arithmetic.right c.deref-in-Arithmetic.result.now c.deref-in-Arithmetic.ensures c.deref-in-Arithmetic-2.result.now c.deref-in-Arithmetic-2.ensures c.in-Arithmetic.operator c.in-Arithmetic.is)), within)

pub copy_expr-copy_expr-requires-in-Comparison : goal.copy_expr-copy_expr-requires-in-Comparison
copy_expr-copy_expr-requires-in-Comparison g t c κs within = (left_lighter (weight (bound_expr_of c.deref-in-Comparison.result.now)) _ t c.decreases _ (ap weight (comparison_is c.args.expression.now c.in-Comparison.offset c.in-Comparison.left c.in-Comparison.right c.deref-in-Comparison.result.now c.deref-in-Comparison.ensures c.in-Comparison.right.value refl c.in-Comparison.operator c.in-Comparison.is)), within)

pub copy_expr-copy_expr-requires-in-Comparison-2 : goal.copy_expr-copy_expr-requires-in-Comparison-2
copy_expr-copy_expr-requires-in-Comparison-2 g t c κs within = (right_lighter (weight (bound_expr_of c.deref-in-Comparison-2.result.now)) _ t c.decreases _ (ap weight (comparison_is c.args.expression.now c.in-Comparison.offset c.in-Comparison.left c.in-Comparison.right c.deref-in-Comparison.result.now c.deref-in-Comparison.ensures c.deref-in-Comparison-2.result.now c.deref-in-Comparison-2.ensures c.in-Comparison.operator c.in-Comparison.is)), within)

pub copy_expr-copy_expr-requires-in-Between : goal.copy_expr-copy_expr-requires-in-Between
copy_expr-copy_expr-requires-in-Between g t c κs within = (left_lighter (weight (bound_expr_of c.deref-in-Between.result.now)) _ t c.decreases _ (ap weight (between_is c.args.expression.now c.in-Between.negated c.in-Between.offset c.in-Between.operand c.in-Between.low c.in-Between.high c.in-Between.is c.deref-in-Between.result.now c.deref-in-Between.ensures c.in-Between.low.value refl c.in-Between.high.value refl)), within)

pub copy_expr-copy_expr-requires-in-Between-2 : goal.copy_expr-copy_expr-requires-in-Between-2
copy_expr-copy_expr-requires-in-Between-2 g t c κs within = (middle_lighter (weight (bound_expr_of c.deref-in-Between-2.result.now)) _ t c.decreases _ _ (ap weight (between_is c.args.expression.now c.in-Between.negated c.in-Between.offset c.in-Between.operand c.in-Between.low c.in-Between.high c.in-Between.is c.deref-in-Between.result.now c.deref-in-Between.ensures c.deref-in-Between-2.result.now c.deref-in-Between-2.ensures c.in-Between.high.value refl)), within)

pub copy_expr-copy_expr-requires-in-Between-3 : goal.copy_expr-copy_expr-requires-in-Between-3
copy_expr-copy_expr-requires-in-Between-3 g t c κs within = (last_lighter (weight (bound_expr_of c.deref-in-Between-3.result.now)) _ t c.decreases _ _ (ap weight (between_is c.args.expression.now c.in-Between.negated c.in-Between.offset c.in-Between.operand c.in-Between.low c.in-Between.high c.in-Between.is c.deref-in-Between.result.now c.deref-in-Between.ensures c.deref-in-Between-2.result.now c.deref-in-Between-2.ensures c.deref-in-Between-3.result.now c.deref-in-Between-3.ensures)), within)

pub copy_expr-copy_members-requires : goal.copy_expr-copy_members-requires
copy_expr-copy_members-requires g t c κs within = let w = ap weight (and_is c.args.expression.now c.in-And.offset c.in-And.members c.deref-in-And.result.now c.deref-in-And.ensures.value c.in-And.is) in (omega (arith, c.decreases, w), within)

pub copy_expr-copy_members-requires-in-Or : goal.copy_expr-copy_members-requires-in-Or
copy_expr-copy_members-requires-in-Or g t c κs within = let w = ap weight (or_is c.args.expression.now c.in-Or.offset c.in-Or.members c.deref-in-Or.result.now c.deref-in-Or.ensures.value c.in-Or.is) in (omega (arith, c.decreases, w), within)

pub copy_expr-copy_arms-arms-requires : goal.copy_expr-copy_arms-arms-requires
copy_expr-copy_arms-arms-requires g t c κs within = let w = case_lighter c.args.expression.now c.in-Case.offset c.in-Case.arms c.deref-in-Case.result.now c.deref-in-Case.ensures.value c.in-Case.otherwise c.in-Case.is in (omega (arith, c.decreases, w), within)

pub copy_expr-copy_expr-value-requires : goal.copy_expr-copy_expr-value-requires
copy_expr-copy_expr-value-requires g t c κs within = let w = ap weight (case_some c.args.expression.now c.in-Case.offset c.in-Case.arms c.deref-in-Case.result.now c.deref-in-Case.ensures.value c.in-Case.otherwise c.in-Case.is c.in-Some.value c.in-Some.is) in let e = ap (λ e. weight (bound_expr_of e)) c.deref-in-Some.ensures in (omega (arith, c.decreases, w, e), within)
