use borrow.Author.Count.{falls}
use Rattle.std.proofs.Common.{◌∙◌, ap, length, map, sym, refl, arith}
use Rattle.std.proofs.Math.Nat.{le_refl}
use Rattle.std.proofs.lemmas.Result.{IfOk-from_err}
use Rattle.value.specs.Datum.{datum}
use Rattle.expr.specs.Bound as bound
use Rattle.expr.specs.Bound.{bound_exprs_of, bound_arms_of}
use Rattle.expr.specs.View.{bound_expr_of, bound_exprs, bound_arm_pair, bound_arms}
use Rattle.expr.specs.Weights.{weight, all_weight, arms_weight}
use Rattle.expr.proofs.Walks.{and_is, or_is, case_none, case_some, case_lighter, exprs_still, arms_still, exprs_lighter, when_lighter, result_lighter}
use Rattle.expr.proofs.Copied.{made_of, copied_as, between_copied, in_copied}
use Rattle.predicates.specs.Rebuilt.{rebuilt}
use Rattle.predicates.proofs.Made.{made_first, made_next, made_over, all_of_each, arms_of_each}
use Rattle.expr.proofs.Operands.{negate_is, in_is, is_null_is, not_is, cast_is, call_is, arithmetic_is, comparison_is, between_is}
use Rattle.memory.proofs.Lighter.{lighter, left_lighter, right_lighter, middle_lighter, last_lighter}
use Rattle.predicates.proofs.rebuilding.+rebuild.Goals as goal

pub rebuild_all-rebuild-requires : goal.rebuild_all-rebuild-requires
rebuild_all-rebuild-requires g t c κs within = let w = exprs_lighter c.args.members.now c.loop-member.member-index c.member-item.result c.loop-member-test.true c.member-item.is c.loop-member.invariant.lighter in (omega (arith, c.decreases, w), within)

pub rebuild_all-loop-member-preserved : goal.rebuild_all-loop-member-preserved
rebuild_all-loop-member-preserved g t c = record {
  rest = made_next bound_expr_of (λ e. rebuilt (g.R.Rule.at c.args.rule.now) (bound_expr_of e)) c.args.members.now c.loop-member.member-index c.loop-member.all _ c.loop-member.invariant.rest c.member-item.result c.loop-member-test.true c.member-item.is _ _ c.in_ok-push-in-Ok.ensures.ok (ap bound_expr_of c.into_inner.ensures ∙ c.in-Ok.ensures);
  lighter = exprs_still c.args.members.now c.loop-member.member-index c.member-item.result c.loop-member-test.true c.member-item.is c.loop-member.invariant.lighter;
}

pub rebuild_all-returns : goal.rebuild_all-returns
rebuild_all-returns g t c = rw c.into_vec.ensures (ap bound_exprs_of (made_over bound_expr_of (λ e. rebuilt (g.R.Rule.at c.args.rule.now) (bound_expr_of e)) c.args.members.now c.loop-member.member-index c.loop-member.all _ c.loop-member.invariant.rest (omega (arith, c.loop-member-test.false))) ∙ all_of_each (g.R.Rule.at c.args.rule.now) bound_expr_of c.args.members.now)

pub rebuild_arms-rebuild-when-requires : goal.rebuild_arms-rebuild-when-requires
rebuild_arms-rebuild-when-requires g t c κs within = let w = when_lighter c.args.arms.now c.loop-next.next-index c.next-item.result c.loop-next-test.true c.next-item.is c.loop-next.invariant.lighter in (omega (arith, c.decreases, w), within)

pub rebuild_arms-rebuild-result-requires : goal.rebuild_arms-rebuild-result-requires
rebuild_arms-rebuild-result-requires g t c κs within = let w = result_lighter c.args.arms.now c.loop-next.next-index c.next-item.result c.loop-next-test.true c.next-item.is c.loop-next.invariant.lighter in (omega (arith, c.decreases, w), within)

pub rebuild_arms-loop-next-preserved : goal.rebuild_arms-loop-next-preserved
rebuild_arms-loop-next-preserved g t c = record {
  rest = made_next bound_arm_pair (λ a. (rebuilt (g.R.Rule.at c.args.rule.now) (bound_expr_of a.when), rebuilt (g.R.Rule.at c.args.rule.now) (bound_expr_of a.result))) c.args.arms.now c.loop-next.next-index c.loop-next.all _ c.loop-next.invariant.rest c.next-item.result c.loop-next-test.true c.next-item.is c.in-Ok.arm _ c.in_ok-push-in-Ok.ensures.ok (c.in-Ok.ensures _ _ c.rebuild-when.ensures c.rebuild-result.ensures);
  lighter = arms_still c.args.arms.now c.loop-next.next-index c.next-item.result c.loop-next-test.true c.next-item.is c.loop-next.invariant.lighter;
}

pub rebuild_arms-returns : goal.rebuild_arms-returns
rebuild_arms-returns g t c = rw c.into_vec.ensures (ap bound_arms_of (made_over bound_arm_pair (λ a. (rebuilt (g.R.Rule.at c.args.rule.now) (bound_expr_of a.when), rebuilt (g.R.Rule.at c.args.rule.now) (bound_expr_of a.result))) c.args.arms.now c.loop-next.next-index c.loop-next.all _ c.loop-next.invariant.rest (omega (arith, c.loop-next-test.false))) ∙ arms_of_each (g.R.Rule.at c.args.rule.now) bound_arm_pair c.args.arms.now)

pub rebuild_arms-loop-next-smaller : goal.rebuild_arms-loop-next-smaller
rebuild_arms-loop-next-smaller g t c = falls (length c.args.arms.now) c.loop-next.next-index c.loop-next-test.true

pub rebuild_arms-returns-in_err-push-in-Ok : goal.rebuild_arms-returns-in_err-push-in-Ok
rebuild_arms-returns-in_err-push-in-Ok g t c = IfOk-from_err c.from_residual.result _ c.from_residual.ensures.0

pub rebuild_all-loop-member-smaller : goal.rebuild_all-loop-member-smaller
rebuild_all-loop-member-smaller g t c = falls (length c.args.members.now) c.loop-member.member-index c.loop-member-test.true

pub rebuild_all-returns-in_err-push-in-Ok : goal.rebuild_all-returns-in_err-push-in-Ok
rebuild_all-returns-in_err-push-in-Ok g t c = IfOk-from_err c.from_residual.result _ c.from_residual.ensures.0

pub rebuild_all-loop-member-init : goal.rebuild_all-loop-member-init
rebuild_all-loop-member-init g t c = record {
  rest = made_first bound_expr_of (λ e. rebuilt (g.R.Rule.at c.args.rule.now) (bound_expr_of e)) c.args.members.now _ c.new-all.ensures;
  lighter = le_refl (all_weight (bound_exprs c.args.members.now));
}

pub rebuild_all-offset_bounds-members-member-index : goal.rebuild_all-offset_bounds-members-member-index
rebuild_all-offset_bounds-members-member-index g t c = c.loop-member.auto.member-index-end

pub rebuild_all-bounds-members-member-index : goal.rebuild_all-bounds-members-member-index
rebuild_all-bounds-members-member-index g t c = c.loop-member-test.true

pub rebuild_arms-loop-next-init : goal.rebuild_arms-loop-next-init
rebuild_arms-loop-next-init g t c = record {
  rest = made_first bound_arm_pair (λ a. (rebuilt (g.R.Rule.at c.args.rule.now) (bound_expr_of a.when), rebuilt (g.R.Rule.at c.args.rule.now) (bound_expr_of a.result))) c.args.arms.now _ c.new-all.ensures;
  lighter = le_refl (arms_weight (bound_arms c.args.arms.now));
}

pub rebuild_arms-offset_bounds-arms-next-index : goal.rebuild_arms-offset_bounds-arms-next-index
rebuild_arms-offset_bounds-arms-next-index g t c = c.loop-next.auto.next-index-end

pub rebuild_arms-bounds-arms-next-index : goal.rebuild_arms-bounds-arms-next-index
rebuild_arms-bounds-arms-next-index g t c = c.loop-next-test.true

-- ---- nodes

pub rebuild-returns-in-Column : goal.rebuild-returns-in-Column
rebuild-returns-in-Column g t c = copied_as c.apply.result _ _ (ap (rebuilt (g.R.Rule.at c.args.rule.now)) (ap bound_expr_of c.in-Column.is)) (c.apply.ensures _ (made_of c.boxed.result _ _ refl c.boxed.ensures))

pub rebuild-returns-in-CurrentUser : goal.rebuild-returns-in-CurrentUser
rebuild-returns-in-CurrentUser g t c = copied_as c.apply-in-CurrentUser.result _ _ (ap (rebuilt (g.R.Rule.at c.args.rule.now)) (ap bound_expr_of c.in-CurrentUser.is)) (c.apply-in-CurrentUser.ensures _ (made_of c.boxed-in-CurrentUser.result _ _ refl c.boxed-in-CurrentUser.ensures))

pub rebuild-returns-in-CountStar : goal.rebuild-returns-in-CountStar
rebuild-returns-in-CountStar g t c = copied_as c.apply-in-CountStar.result _ _ (ap (rebuilt (g.R.Rule.at c.args.rule.now)) (ap bound_expr_of c.in-CountStar.is)) (c.apply-in-CountStar.ensures _ (made_of c.boxed-in-CountStar.result _ _ refl c.boxed-in-CountStar.ensures))

pub rebuild-returns-in-Literal : goal.rebuild-returns-in-Literal
rebuild-returns-in-Literal g t c = copied_as c.apply-in-Literal.result _ _ (ap (rebuilt (g.R.Rule.at c.args.rule.now)) (ap bound_expr_of c.in-Literal.is)) (c.apply-in-Literal.ensures _ (c.literal.ensures _ c.copy.ensures))

pub rebuild-returns-in-Negate : goal.rebuild-returns-in-Negate
rebuild-returns-in-Negate g t c = copied_as c.apply-in-Negate.result _ _ (ap (rebuilt (g.R.Rule.at c.args.rule.now)) (negate_is c.args.expression.now c.in-Negate.offset c.in-Negate.operand c.deref.result.now c.deref.ensures c.in-Negate.is)) (c.apply-in-Negate.ensures _ (c.negation.ensures _ c.rebuild.ensures))

pub rebuild-returns-in-IsNull : goal.rebuild-returns-in-IsNull
rebuild-returns-in-IsNull g t c = copied_as c.apply-in-IsNull.result _ _ (ap (rebuilt (g.R.Rule.at c.args.rule.now)) (is_null_is c.args.expression.now c.in-IsNull.offset c.in-IsNull.operand c.deref-in-IsNull.result.now c.deref-in-IsNull.ensures c.in-IsNull.negated c.in-IsNull.is)) (c.apply-in-IsNull.ensures _ (c.null_check.ensures _ c.rebuild-in-IsNull.ensures))

pub rebuild-returns-in-Not : goal.rebuild-returns-in-Not
rebuild-returns-in-Not g t c = copied_as c.apply-in-Not.result _ _ (ap (rebuilt (g.R.Rule.at c.args.rule.now)) (not_is c.args.expression.now c.in-Not.offset c.in-Not.operand c.deref-in-Not.result.now c.deref-in-Not.ensures c.in-Not.is)) (c.apply-in-Not.ensures _ (c.logical_not.ensures _ c.rebuild-in-Not.ensures))

pub rebuild-returns-in-Cast : goal.rebuild-returns-in-Cast
rebuild-returns-in-Cast g t c = copied_as c.apply-in-Cast.result _ _ (ap (rebuilt (g.R.Rule.at c.args.rule.now)) (cast_is c.args.expression.now c.in-Cast.offset c.in-Cast.operand c.deref-in-Cast.result.now c.deref-in-Cast.ensures c.in-Cast.to c.in-Cast.is)) (c.apply-in-Cast.ensures _ (c.cast.ensures _ c.rebuild-in-Cast.ensures))

pub rebuild-returns-in-Call : goal.rebuild-returns-in-Call
rebuild-returns-in-Call g t c = copied_as c.apply-in-Call.result _ _ (ap (rebuilt (g.R.Rule.at c.args.rule.now)) (call_is c.args.expression.now c.in-Call.offset c.in-Call.argument c.deref-in-Call.result.now c.deref-in-Call.ensures c.in-Call.aggregate c.in-Call.is)) (c.apply-in-Call.ensures _ (c.call.ensures _ c.rebuild-in-Call.ensures))

pub rebuild-returns-in_ok-left-in-Arithmetic : goal.rebuild-returns-in_ok-left-in-Arithmetic
rebuild-returns-in_ok-left-in-Arithmetic g t c = copied_as c.apply-in-Arithmetic.result _ _ (ap (rebuilt (g.R.Rule.at c.args.rule.now)) (arithmetic_is c.args.expression.now c.in-Arithmetic.offset c.in-Arithmetic.left c.in-Arithmetic.right c.deref-in-Arithmetic.result.now c.deref-in-Arithmetic.ensures c.deref-in-Arithmetic-2.result.now c.deref-in-Arithmetic-2.ensures c.in-Arithmetic.operator c.in-Arithmetic.is) ∙ ap (λ l. g.R.Rule.at c.args.rule.now (bound.Arithmetic c.in-Arithmetic.operator c.in-Arithmetic.offset l (rebuilt (g.R.Rule.at c.args.rule.now) (bound_expr_of c.deref-in-Arithmetic-2.result.now)))) (sym c.in_ok-left-in-Arithmetic.ensures)) (c.apply-in-Arithmetic.ensures _ (c.arithmetic.ensures _ c.rebuild-in-Arithmetic-2.ensures))

pub rebuild-returns-in_ok-left-in-Comparison : goal.rebuild-returns-in_ok-left-in-Comparison
rebuild-returns-in_ok-left-in-Comparison g t c = copied_as c.apply-in-Comparison.result _ _ (ap (rebuilt (g.R.Rule.at c.args.rule.now)) (comparison_is c.args.expression.now c.in-Comparison.offset c.in-Comparison.left c.in-Comparison.right c.deref-in-Comparison.result.now c.deref-in-Comparison.ensures c.deref-in-Comparison-2.result.now c.deref-in-Comparison-2.ensures c.in-Comparison.operator c.in-Comparison.is) ∙ ap (λ l. g.R.Rule.at c.args.rule.now (bound.Comparison c.in-Comparison.operator c.in-Comparison.offset l (rebuilt (g.R.Rule.at c.args.rule.now) (bound_expr_of c.deref-in-Comparison-2.result.now)))) (sym c.in_ok-left-in-Comparison.ensures)) (c.apply-in-Comparison.ensures _ (c.comparison.ensures _ c.rebuild-in-Comparison-2.ensures))

pub rebuild-returns-in_ok-low-in-Between : goal.rebuild-returns-in_ok-low-in-Between
rebuild-returns-in_ok-low-in-Between g t c = copied_as c.apply-in-Between.result _ _ (ap (rebuilt (g.R.Rule.at c.args.rule.now)) (between_is c.args.expression.now c.in-Between.negated c.in-Between.offset c.in-Between.operand c.in-Between.low c.in-Between.high c.in-Between.is c.deref-in-Between.result.now c.deref-in-Between.ensures c.deref-in-Between-2.result.now c.deref-in-Between-2.ensures c.deref-in-Between-3.result.now c.deref-in-Between-3.ensures) ∙ ap (g.R.Rule.at c.args.rule.now) (between_copied c.in-Between.negated c.in-Between.offset _ _ _ _ _ _ refl c.in_ok-operand-in-Between.ensures c.in_ok-low-in-Between.ensures)) (c.apply-in-Between.ensures _ (c.between.ensures _ c.rebuild-in-Between-3.ensures))

pub rebuild-returns-in-In : goal.rebuild-returns-in-In
rebuild-returns-in-In g t c = copied_as c.apply-in-In.result _ _ (ap (rebuilt (g.R.Rule.at c.args.rule.now)) (in_is c.args.expression.now c.in-In.negated c.in-In.offset c.in-In.values c.in-In.operand c.in-In.is c.deref-in-In.result.now c.deref-in-In.ensures) ∙ ap (g.R.Rule.at c.args.rule.now) (in_copied c.in-In.negated c.in-In.offset _ _ _ _ refl (ap (map datum) c.as_slice.ensures))) (c.apply-in-In.ensures _ (c.membership.ensures _ c.rebuild-operand.ensures))

pub rebuild-returns-in-And : goal.rebuild-returns-in-And
rebuild-returns-in-And g t c = rw (and_is c.args.expression.now c.in-And.offset c.in-And.members c.deref-in-And.result.now c.deref-in-And.ensures.value c.in-And.is) (c.apply-in-And.ensures _ (c.conjunction.ensures _ c.rebuild_all.ensures))

pub rebuild-returns-in-Or : goal.rebuild-returns-in-Or
rebuild-returns-in-Or g t c = rw (or_is c.args.expression.now c.in-Or.offset c.in-Or.members c.deref-in-Or.result.now c.deref-in-Or.ensures.value c.in-Or.is) (c.apply-in-Or.ensures _ (c.disjunction.ensures _ c.rebuild_all-in-Or.ensures))

pub rebuild-returns-in-Some : goal.rebuild-returns-in-Some
rebuild-returns-in-Some g t c = rw (case_some c.args.expression.now c.in-Case.offset c.in-Case.arms c.deref-in-Case.result.now c.deref-in-Case.ensures.value c.in-Case.otherwise c.in-Case.is c.in-Some.value c.in-Some.is) (c.apply-in-Some.ensures _ (c.with_otherwise.ensures _ _ c.rebuild_arms-arms.ensures (rw c.deref-in-Some.ensures at c.rebuild-value.ensures)))

pub rebuild-returns-in-None : goal.rebuild-returns-in-None
rebuild-returns-in-None g t c = rw (case_none c.args.expression.now c.in-Case.offset c.in-Case.arms c.deref-in-Case.result.now c.deref-in-Case.ensures.value c.in-Case.otherwise c.in-Case.is c.in-None.is) (c.apply-in-None.ensures _ (c.without_otherwise.ensures _ c.rebuild_arms-arms.ensures))

-- ---- no memory

pub rebuild-returns-in_err-left-in-Arithmetic : goal.rebuild-returns-in_err-left-in-Arithmetic
rebuild-returns-in_err-left-in-Arithmetic g t c = IfOk-from_err c.from_residual.result _ c.from_residual.ensures.0

pub rebuild-returns-in_err-left-in-Comparison : goal.rebuild-returns-in_err-left-in-Comparison
rebuild-returns-in_err-left-in-Comparison g t c = IfOk-from_err c.from_residual-in_err-left-in-Comparison.result _ c.from_residual-in_err-left-in-Comparison.ensures.0

pub rebuild-returns-in_err-operand-in-Between : goal.rebuild-returns-in_err-operand-in-Between
rebuild-returns-in_err-operand-in-Between g t c = IfOk-from_err c.from_residual-in_err-operand-in-Between.result _ c.from_residual-in_err-operand-in-Between.ensures.0

pub rebuild-returns-in_err-low-in-Between : goal.rebuild-returns-in_err-low-in-Between
rebuild-returns-in_err-low-in-Between g t c = IfOk-from_err c.from_residual-in_err-low-in-Between.result _ c.from_residual-in_err-low-in-Between.ensures.0

-- ---- each call is on less

pub rebuild-rebuild-requires : goal.rebuild-rebuild-requires
rebuild-rebuild-requires g t c κs within = (lighter (weight (bound_expr_of c.deref.result.now)) _ t c.decreases (ap weight (negate_is c.args.expression.now c.in-Negate.offset c.in-Negate.operand c.deref.result.now c.deref.ensures c.in-Negate.is)), within)

pub rebuild-rebuild-requires-in-IsNull : goal.rebuild-rebuild-requires-in-IsNull
rebuild-rebuild-requires-in-IsNull g t c κs within = (lighter (weight (bound_expr_of c.deref-in-IsNull.result.now)) _ t c.decreases (ap weight (is_null_is c.args.expression.now c.in-IsNull.offset c.in-IsNull.operand c.deref-in-IsNull.result.now c.deref-in-IsNull.ensures c.in-IsNull.negated c.in-IsNull.is)), within)

pub rebuild-rebuild-requires-in-Not : goal.rebuild-rebuild-requires-in-Not
rebuild-rebuild-requires-in-Not g t c κs within = (lighter (weight (bound_expr_of c.deref-in-Not.result.now)) _ t c.decreases (ap weight (not_is c.args.expression.now c.in-Not.offset c.in-Not.operand c.deref-in-Not.result.now c.deref-in-Not.ensures c.in-Not.is)), within)

pub rebuild-rebuild-requires-in-Cast : goal.rebuild-rebuild-requires-in-Cast
rebuild-rebuild-requires-in-Cast g t c κs within = (lighter (weight (bound_expr_of c.deref-in-Cast.result.now)) _ t c.decreases (ap weight (cast_is c.args.expression.now c.in-Cast.offset c.in-Cast.operand c.deref-in-Cast.result.now c.deref-in-Cast.ensures c.in-Cast.to c.in-Cast.is)), within)

pub rebuild-rebuild-requires-in-Call : goal.rebuild-rebuild-requires-in-Call
rebuild-rebuild-requires-in-Call g t c κs within = (lighter (weight (bound_expr_of c.deref-in-Call.result.now)) _ t c.decreases (ap weight (call_is c.args.expression.now c.in-Call.offset c.in-Call.argument c.deref-in-Call.result.now c.deref-in-Call.ensures c.in-Call.aggregate c.in-Call.is)), within)

pub rebuild-rebuild-operand-requires : goal.rebuild-rebuild-operand-requires
rebuild-rebuild-operand-requires g t c κs within = (lighter (weight (bound_expr_of c.deref-in-In.result.now)) _ t c.decreases (ap weight (in_is c.args.expression.now c.in-In.negated c.in-In.offset c.in-In.values c.in-In.operand c.in-In.is c.deref-in-In.result.now c.deref-in-In.ensures)), within)

pub rebuild-rebuild-requires-in-Arithmetic : goal.rebuild-rebuild-requires-in-Arithmetic
rebuild-rebuild-requires-in-Arithmetic g t c κs within = (left_lighter (weight (bound_expr_of c.deref-in-Arithmetic.result.now)) _ t c.decreases _ (ap weight (arithmetic_is c.args.expression.now c.in-Arithmetic.offset c.in-Arithmetic.left c.in-Arithmetic.right c.deref-in-Arithmetic.result.now c.deref-in-Arithmetic.ensures c.in-Arithmetic.right.value refl c.in-Arithmetic.operator c.in-Arithmetic.is)), within)

pub rebuild-rebuild-requires-in-Arithmetic-2 : goal.rebuild-rebuild-requires-in-Arithmetic-2
rebuild-rebuild-requires-in-Arithmetic-2 g t c κs within = (right_lighter (weight (bound_expr_of c.deref-in-Arithmetic-2.result.now)) _ t c.decreases _ (ap weight (arithmetic_is c.args.expression.now c.in-Arithmetic.offset c.in-Arithmetic.left c.in-Arithmetic.right c.deref-in-Arithmetic.result.now c.deref-in-Arithmetic.ensures c.deref-in-Arithmetic-2.result.now c.deref-in-Arithmetic-2.ensures c.in-Arithmetic.operator c.in-Arithmetic.is)), within)

pub rebuild-rebuild-requires-in-Comparison : goal.rebuild-rebuild-requires-in-Comparison
rebuild-rebuild-requires-in-Comparison g t c κs within = (left_lighter (weight (bound_expr_of c.deref-in-Comparison.result.now)) _ t c.decreases _ (ap weight (comparison_is c.args.expression.now c.in-Comparison.offset c.in-Comparison.left c.in-Comparison.right c.deref-in-Comparison.result.now c.deref-in-Comparison.ensures c.in-Comparison.right.value refl c.in-Comparison.operator c.in-Comparison.is)), within)

pub rebuild-rebuild-requires-in-Comparison-2 : goal.rebuild-rebuild-requires-in-Comparison-2
rebuild-rebuild-requires-in-Comparison-2 g t c κs within = (right_lighter (weight (bound_expr_of c.deref-in-Comparison-2.result.now)) _ t c.decreases _ (ap weight (comparison_is c.args.expression.now c.in-Comparison.offset c.in-Comparison.left c.in-Comparison.right c.deref-in-Comparison.result.now c.deref-in-Comparison.ensures c.deref-in-Comparison-2.result.now c.deref-in-Comparison-2.ensures c.in-Comparison.operator c.in-Comparison.is)), within)

pub rebuild-rebuild-requires-in-Between : goal.rebuild-rebuild-requires-in-Between
rebuild-rebuild-requires-in-Between g t c κs within = (left_lighter (weight (bound_expr_of c.deref-in-Between.result.now)) _ t c.decreases _ (ap weight (between_is c.args.expression.now c.in-Between.negated c.in-Between.offset c.in-Between.operand c.in-Between.low c.in-Between.high c.in-Between.is c.deref-in-Between.result.now c.deref-in-Between.ensures c.in-Between.low.value refl c.in-Between.high.value refl)), within)

pub rebuild-rebuild-requires-in-Between-2 : goal.rebuild-rebuild-requires-in-Between-2
rebuild-rebuild-requires-in-Between-2 g t c κs within = (middle_lighter (weight (bound_expr_of c.deref-in-Between-2.result.now)) _ t c.decreases _ _ (ap weight (between_is c.args.expression.now c.in-Between.negated c.in-Between.offset c.in-Between.operand c.in-Between.low c.in-Between.high c.in-Between.is c.deref-in-Between.result.now c.deref-in-Between.ensures c.deref-in-Between-2.result.now c.deref-in-Between-2.ensures c.in-Between.high.value refl)), within)

pub rebuild-rebuild-requires-in-Between-3 : goal.rebuild-rebuild-requires-in-Between-3
rebuild-rebuild-requires-in-Between-3 g t c κs within = (last_lighter (weight (bound_expr_of c.deref-in-Between-3.result.now)) _ t c.decreases _ _ (ap weight (between_is c.args.expression.now c.in-Between.negated c.in-Between.offset c.in-Between.operand c.in-Between.low c.in-Between.high c.in-Between.is c.deref-in-Between.result.now c.deref-in-Between.ensures c.deref-in-Between-2.result.now c.deref-in-Between-2.ensures c.deref-in-Between-3.result.now c.deref-in-Between-3.ensures)), within)

pub rebuild-rebuild_all-requires : goal.rebuild-rebuild_all-requires
rebuild-rebuild_all-requires g t c κs within = let w = ap weight (and_is c.args.expression.now c.in-And.offset c.in-And.members c.deref-in-And.result.now c.deref-in-And.ensures.value c.in-And.is) in (omega (arith, c.decreases, w), within)

pub rebuild-rebuild_all-requires-in-Or : goal.rebuild-rebuild_all-requires-in-Or
rebuild-rebuild_all-requires-in-Or g t c κs within = let w = ap weight (or_is c.args.expression.now c.in-Or.offset c.in-Or.members c.deref-in-Or.result.now c.deref-in-Or.ensures.value c.in-Or.is) in (omega (arith, c.decreases, w), within)

pub rebuild-rebuild_arms-arms-requires : goal.rebuild-rebuild_arms-arms-requires
rebuild-rebuild_arms-arms-requires g t c κs within = let w = case_lighter c.args.expression.now c.in-Case.offset c.in-Case.arms c.deref-in-Case.result.now c.deref-in-Case.ensures.value c.in-Case.otherwise c.in-Case.is in (omega (arith, c.decreases, w), within)

pub rebuild-rebuild-value-requires : goal.rebuild-rebuild-value-requires
rebuild-rebuild-value-requires g t c κs within = let w = ap weight (case_some c.args.expression.now c.in-Case.offset c.in-Case.arms c.deref-in-Case.result.now c.deref-in-Case.ensures.value c.in-Case.otherwise c.in-Case.is c.in-Some.value c.in-Some.is) in let e = ap (λ e. weight (bound_expr_of e)) c.deref-in-Some.ensures in (omega (arith, c.decreases, w, e), within)
