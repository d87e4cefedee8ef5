use borrow.Author.Count.{falls}
use Rattle.std.proofs.Common.{◌∙◌, ◌<◌, length, ap, refl, sym, subst, arith, le_refl}
use Rattle.std.specs.Prelude.{Some}
use Rattle.expr.specs.View.{bound_arms, bound_expr_of, bound_exprs}
use Rattle.expr.specs.Fragile.{first_fragile}
use Rattle.expr.specs.Weights.{weight, all_weight, arms_weight}
use Rattle.expr.specs.Offsets.{least_of}
use Rattle.memory.proofs.Lighter.{lighter, left_lighter, right_lighter, middle_lighter, last_lighter}
use Rattle.expr.proofs.Walks.{and_is, or_is, case_none, case_some, case_lighter, exprs_still, arms_still, exprs_lighter, when_lighter, result_lighter}
use Rattle.expr.proofs.Operands.{negate_is, in_is, is_null_is, not_is, cast_is, call_is, arithmetic_is, comparison_is, between_is}
use Rattle.expr.proofs.FragileWalks.{fragile_as, least_is, fragile_step, fragile_over, fragile_arm_step, fragile_arms_over}
use Rattle.expr.proofs.fragile.+fragile.Goals as goal

-- ---- each call is on less

pub first_fragile-first_fragile-requires : goal.first_fragile-first_fragile-requires
first_fragile-first_fragile-requires g t c κs within = (lighter (weight (bound_expr_of c.deref.result.now)) _ t c.decreases (ap weight (negate_is c.args.expression.now c.in-Negate.offset c.in-Negate.operand c.deref.result.now c.deref.ensures c.in-Negate.is)), within)

pub first_fragile-first_fragile-left-requires : goal.first_fragile-first_fragile-left-requires
first_fragile-first_fragile-left-requires g t c κs within = (left_lighter (weight (bound_expr_of c.deref-in-Arithmetic.result.now)) _ t c.decreases _ (ap weight (arithmetic_is c.args.expression.now c.in-Arithmetic.offset c.in-Arithmetic.left c.in-Arithmetic.right c.deref-in-Arithmetic.result.now c.deref-in-Arithmetic.ensures _ refl c.in-Arithmetic.operator c.in-Arithmetic.is)), within)

pub first_fragile-first_fragile-requires-in-Arithmetic : goal.first_fragile-first_fragile-requires-in-Arithmetic
first_fragile-first_fragile-requires-in-Arithmetic g t c κs within = (right_lighter (weight (bound_expr_of c.deref-in-Arithmetic-2.result.now)) _ t c.decreases _ (ap weight (arithmetic_is c.args.expression.now c.in-Arithmetic.offset c.in-Arithmetic.left c.in-Arithmetic.right c.deref-in-Arithmetic.result.now c.deref-in-Arithmetic.ensures c.deref-in-Arithmetic-2.result.now c.deref-in-Arithmetic-2.ensures c.in-Arithmetic.operator c.in-Arithmetic.is)), within)

pub first_fragile-first_fragile-left-requires-in-Comparison : goal.first_fragile-first_fragile-left-requires-in-Comparison
first_fragile-first_fragile-left-requires-in-Comparison g t c κs within = (left_lighter (weight (bound_expr_of c.deref-in-Comparison.result.now)) _ t c.decreases _ (ap weight (comparison_is c.args.expression.now c.in-Comparison.offset c.in-Comparison.left c.in-Comparison.right c.deref-in-Comparison.result.now c.deref-in-Comparison.ensures _ refl c.in-Comparison.operator c.in-Comparison.is)), within)

pub first_fragile-first_fragile-requires-in-Comparison : goal.first_fragile-first_fragile-requires-in-Comparison
first_fragile-first_fragile-requires-in-Comparison g t c κs within = (right_lighter (weight (bound_expr_of c.deref-in-Comparison-2.result.now)) _ t c.decreases _ (ap weight (comparison_is c.args.expression.now c.in-Comparison.offset c.in-Comparison.left c.in-Comparison.right c.deref-in-Comparison.result.now c.deref-in-Comparison.ensures c.deref-in-Comparison-2.result.now c.deref-in-Comparison-2.ensures c.in-Comparison.operator c.in-Comparison.is)), within)

pub first_fragile-first_fragile-operand-requires : goal.first_fragile-first_fragile-operand-requires
first_fragile-first_fragile-operand-requires g t c κs within = (left_lighter (weight (bound_expr_of c.deref-in-Between.result.now)) _ t c.decreases _ (ap weight (between_is c.args.expression.now c.in-Between.negated c.in-Between.offset c.in-Between.operand c.in-Between.low c.in-Between.high c.in-Between.is c.deref-in-Between.result.now c.deref-in-Between.ensures _ refl _ refl)), within)

pub first_fragile-first_fragile-low-requires : goal.first_fragile-first_fragile-low-requires
first_fragile-first_fragile-low-requires g t c κs within = (middle_lighter (weight (bound_expr_of c.deref-in-Between-2.result.now)) _ t c.decreases _ _ (ap weight (between_is c.args.expression.now c.in-Between.negated c.in-Between.offset c.in-Between.operand c.in-Between.low c.in-Between.high c.in-Between.is c.deref-in-Between.result.now c.deref-in-Between.ensures c.deref-in-Between-2.result.now c.deref-in-Between-2.ensures _ refl)), within)

pub first_fragile-first_fragile-high-requires : goal.first_fragile-first_fragile-high-requires
first_fragile-first_fragile-high-requires g t c κs within = (last_lighter (weight (bound_expr_of c.deref-in-Between-3.result.now)) _ t c.decreases _ _ (ap weight (between_is c.args.expression.now c.in-Between.negated c.in-Between.offset c.in-Between.operand c.in-Between.low c.in-Between.high c.in-Between.is c.deref-in-Between.result.now c.deref-in-Between.ensures c.deref-in-Between-2.result.now c.deref-in-Between-2.ensures c.deref-in-Between-3.result.now c.deref-in-Between-3.ensures)), within)

pub first_fragile-first_fragile-requires-in-In : goal.first_fragile-first_fragile-requires-in-In
first_fragile-first_fragile-requires-in-In g t c κs within = (lighter (weight (bound_expr_of c.deref-in-In.result.now)) _ t c.decreases (ap weight (in_is c.args.expression.now c.in-In.negated c.in-In.offset c.in-In.values c.in-In.operand c.in-In.is c.deref-in-In.result.now c.deref-in-In.ensures)), within)

pub first_fragile-first_fragile-requires-in-IsNull : goal.first_fragile-first_fragile-requires-in-IsNull
first_fragile-first_fragile-requires-in-IsNull g t c κs within = (lighter (weight (bound_expr_of c.deref-in-IsNull.result.now)) _ t c.decreases (ap weight (is_null_is c.args.expression.now c.in-IsNull.offset c.in-IsNull.operand c.deref-in-IsNull.result.now c.deref-in-IsNull.ensures c.in-IsNull.negated c.in-IsNull.is)), within)

pub first_fragile-first_fragile-requires-in-Not : goal.first_fragile-first_fragile-requires-in-Not
first_fragile-first_fragile-requires-in-Not g t c κs within = (lighter (weight (bound_expr_of c.deref-in-Not.result.now)) _ t c.decreases (ap weight (not_is c.args.expression.now c.in-Not.offset c.in-Not.operand c.deref-in-Not.result.now c.deref-in-Not.ensures c.in-Not.is)), within)

pub first_fragile-first_fragile-requires-in-Cast : goal.first_fragile-first_fragile-requires-in-Cast
first_fragile-first_fragile-requires-in-Cast g t c κs within = (lighter (weight (bound_expr_of c.deref-in-Cast.result.now)) _ t c.decreases (ap weight (cast_is c.args.expression.now c.in-Cast.offset c.in-Cast.operand c.deref-in-Cast.result.now c.deref-in-Cast.ensures c.in-Cast.to c.in-Cast.is)), within)

pub first_fragile-first_fragile-requires-in-Call : goal.first_fragile-first_fragile-requires-in-Call
first_fragile-first_fragile-requires-in-Call g t c κs within = (lighter (weight (bound_expr_of c.deref-in-Call.result.now)) _ t c.decreases (ap weight (call_is c.args.expression.now c.in-Call.offset c.in-Call.argument c.deref-in-Call.result.now c.deref-in-Call.ensures c.in-Call.aggregate c.in-Call.is)), within)

pub first_fragile-fragile_members-requires : goal.first_fragile-fragile_members-requires
first_fragile-fragile_members-requires g t c κs within = (lighter (all_weight (bound_exprs c.deref-in-And.result.now)) _ t c.decreases (ap weight (and_is c.args.expression.now c.in-And.offset c.in-And.members c.deref-in-And.result.now c.deref-in-And.ensures.value c.in-And.is)), within)

pub first_fragile-fragile_members-requires-in-Or : goal.first_fragile-fragile_members-requires-in-Or
first_fragile-fragile_members-requires-in-Or g t c κs within = (lighter (all_weight (bound_exprs c.deref-in-Or.result.now)) _ t c.decreases (ap weight (or_is c.args.expression.now c.in-Or.offset c.in-Or.members c.deref-in-Or.result.now c.deref-in-Or.ensures.value c.in-Or.is)), within)

pub first_fragile-fragile_arms-arms-requires : goal.first_fragile-fragile_arms-arms-requires
first_fragile-fragile_arms-arms-requires g t c κs within = (subst (λ n. arms_weight (bound_arms c.deref-in-Case.result.now) < n) c.decreases (case_lighter c.args.expression.now c.in-Case.offset c.in-Case.arms c.deref-in-Case.result.now c.deref-in-Case.ensures.value c.in-Case.otherwise c.in-Case.is), within)

pub first_fragile-first_fragile-requires-in-Some : goal.first_fragile-first_fragile-requires-in-Some
first_fragile-first_fragile-requires-in-Some g t c κs within = let w = ap weight (case_some c.args.expression.now c.in-Case.offset c.in-Case.arms c.deref-in-Case.result.now c.deref-in-Case.ensures.value c.in-Case.otherwise c.in-Case.is c.in-Some.value c.in-Some.is) in let e = ap (λ e. weight (bound_expr_of e)) c.deref-in-Some.ensures in (omega (arith, c.decreases, w, e), within)

pub fragile_members-first_fragile-requires : goal.fragile_members-first_fragile-requires
fragile_members-first_fragile-requires g t c κs within = (subst (λ n. weight (bound_expr_of c.member-item.result) < n) c.decreases (exprs_lighter c.args.members.now c.loop-member.member-index c.member-item.result c.loop-member-test.true c.member-item.is c.loop-member.invariant.lighter), within)

pub fragile_arms-first_fragile-when-requires : goal.fragile_arms-first_fragile-when-requires
fragile_arms-first_fragile-when-requires g t c κs within = (subst (λ n. weight (bound_expr_of c.arm-item.result.when) < n) c.decreases (when_lighter c.args.arms.now c.loop-arm.arm-index c.arm-item.result c.loop-arm-test.true c.arm-item.is c.loop-arm.invariant.lighter), within)

pub fragile_arms-first_fragile-result-requires : goal.fragile_arms-first_fragile-result-requires
fragile_arms-first_fragile-result-requires g t c κs within = (subst (λ n. weight (bound_expr_of c.arm-item.result.result) < n) c.decreases (result_lighter c.args.arms.now c.loop-arm.arm-index c.arm-item.result c.loop-arm-test.true c.arm-item.is c.loop-arm.invariant.lighter), within)

-- ---- the result of each node

pub first_fragile-returns-in-Negate : goal.first_fragile-returns-in-Negate
first_fragile-returns-in-Negate g t c = fragile_as _ _ _ (negate_is c.args.expression.now c.in-Negate.offset c.in-Negate.operand c.deref.result.now c.deref.ensures c.in-Negate.is) (c.least_of.ensures ∙ ap (least_of (Some c.in-Negate.offset)) c.first_fragile.ensures)

pub first_fragile-returns-in-Arithmetic : goal.first_fragile-returns-in-Arithmetic
first_fragile-returns-in-Arithmetic g t c = fragile_as _ _ _ (arithmetic_is c.args.expression.now c.in-Arithmetic.offset c.in-Arithmetic.left c.in-Arithmetic.right c.deref-in-Arithmetic.result.now c.deref-in-Arithmetic.ensures c.deref-in-Arithmetic-2.result.now c.deref-in-Arithmetic-2.ensures c.in-Arithmetic.operator c.in-Arithmetic.is) (c.least_of-in-Arithmetic-2.ensures ∙ ap (least_of (Some c.in-Arithmetic.offset)) (least_is _ _ _ _ _ c.least_of-in-Arithmetic.ensures c.first_fragile-left.ensures c.first_fragile-in-Arithmetic.ensures))

pub first_fragile-returns-in-Comparison : goal.first_fragile-returns-in-Comparison
first_fragile-returns-in-Comparison g t c = fragile_as _ _ _ (comparison_is c.args.expression.now c.in-Comparison.offset c.in-Comparison.left c.in-Comparison.right c.deref-in-Comparison.result.now c.deref-in-Comparison.ensures c.deref-in-Comparison-2.result.now c.deref-in-Comparison-2.ensures c.in-Comparison.operator c.in-Comparison.is) (least_is _ _ _ _ _ c.least_of-in-Comparison.ensures c.first_fragile-left-in-Comparison.ensures c.first_fragile-in-Comparison.ensures)

pub first_fragile-returns-in-Between : goal.first_fragile-returns-in-Between
first_fragile-returns-in-Between g t c = fragile_as _ _ _ (between_is c.args.expression.now c.in-Between.negated c.in-Between.offset c.in-Between.operand c.in-Between.low c.in-Between.high c.in-Between.is c.deref-in-Between.result.now c.deref-in-Between.ensures c.deref-in-Between-2.result.now c.deref-in-Between-2.ensures c.deref-in-Between-3.result.now c.deref-in-Between-3.ensures) (least_is _ _ _ _ _ c.least_of-in-Between-2.ensures c.first_fragile-operand.ensures (least_is _ _ _ _ _ c.least_of-in-Between.ensures c.first_fragile-low.ensures c.first_fragile-high.ensures))

pub first_fragile-returns-in-In : goal.first_fragile-returns-in-In
first_fragile-returns-in-In g t c = fragile_as _ _ _ (in_is c.args.expression.now c.in-In.negated c.in-In.offset c.in-In.values c.in-In.operand c.in-In.is c.deref-in-In.result.now c.deref-in-In.ensures) c.first_fragile-in-In.ensures

pub first_fragile-returns-in-IsNull : goal.first_fragile-returns-in-IsNull
first_fragile-returns-in-IsNull g t c = fragile_as _ _ _ (is_null_is c.args.expression.now c.in-IsNull.offset c.in-IsNull.operand c.deref-in-IsNull.result.now c.deref-in-IsNull.ensures c.in-IsNull.negated c.in-IsNull.is) c.first_fragile-in-IsNull.ensures

pub first_fragile-returns-in-Not : goal.first_fragile-returns-in-Not
first_fragile-returns-in-Not g t c = fragile_as _ _ _ (not_is c.args.expression.now c.in-Not.offset c.in-Not.operand c.deref-in-Not.result.now c.deref-in-Not.ensures c.in-Not.is) c.first_fragile-in-Not.ensures

pub first_fragile-returns-in-And : goal.first_fragile-returns-in-And
first_fragile-returns-in-And g t c = fragile_as _ _ _ (and_is c.args.expression.now c.in-And.offset c.in-And.members c.deref-in-And.result.now c.deref-in-And.ensures.value c.in-And.is) c.fragile_members.ensures

pub first_fragile-returns-in-Or : goal.first_fragile-returns-in-Or
first_fragile-returns-in-Or g t c = fragile_as _ _ _ (or_is c.args.expression.now c.in-Or.offset c.in-Or.members c.deref-in-Or.result.now c.deref-in-Or.ensures.value c.in-Or.is) c.fragile_members-in-Or.ensures

pub first_fragile-returns-in-Cast : goal.first_fragile-returns-in-Cast
first_fragile-returns-in-Cast g t c = fragile_as _ _ _ (cast_is c.args.expression.now c.in-Cast.offset c.in-Cast.operand c.deref-in-Cast.result.now c.deref-in-Cast.ensures c.in-Cast.to c.in-Cast.is) (c.least_of-in-Cast.ensures ∙ ap (least_of (Some c.in-Cast.offset)) c.first_fragile-in-Cast.ensures)

pub first_fragile-returns-in-Some : goal.first_fragile-returns-in-Some
first_fragile-returns-in-Some g t c = fragile_as _ _ _ (case_some c.args.expression.now c.in-Case.offset c.in-Case.arms c.deref-in-Case.result.now c.deref-in-Case.ensures.value c.in-Case.otherwise c.in-Case.is c.in-Some.value c.in-Some.is) (least_is _ _ _ _ _ c.least_of-in-Some.ensures c.fragile_arms-arms.ensures (c.first_fragile-in-Some.ensures ∙ ap (λ e. first_fragile (bound_expr_of e)) c.deref-in-Some.ensures))

pub first_fragile-returns-in-None : goal.first_fragile-returns-in-None
first_fragile-returns-in-None g t c = fragile_as _ _ _ (case_none c.args.expression.now c.in-Case.offset c.in-Case.arms c.deref-in-Case.result.now c.deref-in-Case.ensures.value c.in-Case.otherwise c.in-Case.is c.in-None.is) (least_is _ _ _ _ _ c.least_of-in-None.ensures c.fragile_arms-arms.ensures refl)

pub first_fragile-returns-in-CountStar : goal.first_fragile-returns-in-CountStar
first_fragile-returns-in-CountStar g t c = fragile_as _ _ _ (ap bound_expr_of c.in-CountStar.is) refl

pub first_fragile-returns-in-Call : goal.first_fragile-returns-in-Call
first_fragile-returns-in-Call g t c = fragile_as _ _ _ (call_is c.args.expression.now c.in-Call.offset c.in-Call.argument c.deref-in-Call.result.now c.deref-in-Call.ensures c.in-Call.aggregate c.in-Call.is) (c.least_of-in-Call.ensures ∙ ap (least_of (Some c.in-Call.offset)) c.first_fragile-in-Call.ensures)

-- ---- the walks over members and arms

pub fragile_members-loop-member-preserved : goal.fragile_members-loop-member-preserved
fragile_members-loop-member-preserved g t c = record {
  rest = fragile_step c.args.members.now c.loop-member.member-index c.member-item.result c.loop-member-test.true c.member-item.is c.loop-member.known _ c.first_fragile.result _ c.loop-member.invariant.rest c.first_fragile.ensures c.least_of-known.ensures;
  lighter = exprs_still c.args.members.now c.loop-member.member-index c.member-item.result c.loop-member-test.true c.member-item.is c.loop-member.invariant.lighter;
}

pub fragile_members-returns : goal.fragile_members-returns
fragile_members-returns g t c = fragile_over c.args.members.now c.loop-member.member-index c.loop-member.known _ c.loop-member.invariant.rest (omega (arith, c.loop-member-test.false))

pub fragile_arms-loop-arm-preserved : goal.fragile_arms-loop-arm-preserved
fragile_arms-loop-arm-preserved g t c = record {
  rest = fragile_arm_step c.args.arms.now c.loop-arm.arm-index c.arm-item.result c.loop-arm-test.true c.arm-item.is c.loop-arm.known _ c.least_of.result c.first_fragile-when.result c.first_fragile-result.result _ c.loop-arm.invariant.rest c.first_fragile-when.ensures c.first_fragile-result.ensures c.least_of.ensures c.least_of-known.ensures;
  lighter = arms_still c.args.arms.now c.loop-arm.arm-index c.arm-item.result c.loop-arm-test.true c.arm-item.is c.loop-arm.invariant.lighter;
}

pub fragile_arms-returns : goal.fragile_arms-returns
fragile_arms-returns g t c = fragile_arms_over c.args.arms.now c.loop-arm.arm-index c.loop-arm.known _ c.loop-arm.invariant.rest (omega (arith, c.loop-arm-test.false))

pub fragile_members-offset_bounds-members-member-index : goal.fragile_members-offset_bounds-members-member-index
fragile_members-offset_bounds-members-member-index g t c = c.loop-member.auto.member-index-end

pub fragile_members-bounds-members-member-index : goal.fragile_members-bounds-members-member-index
fragile_members-bounds-members-member-index g t c = c.loop-member-test.true

pub fragile_members-loop-member-smaller : goal.fragile_members-loop-member-smaller
fragile_members-loop-member-smaller g t c = falls (length c.args.members.now) c.loop-member.member-index c.loop-member-test.true

pub fragile_members-loop-member-init : goal.fragile_members-loop-member-init
fragile_members-loop-member-init g t c = record {
  rest = refl;
  lighter = le_refl (all_weight (bound_exprs c.args.members.now));
}

pub fragile_arms-offset_bounds-arms-arm-index : goal.fragile_arms-offset_bounds-arms-arm-index
fragile_arms-offset_bounds-arms-arm-index g t c = c.loop-arm.auto.arm-index-end

pub fragile_arms-bounds-arms-arm-index : goal.fragile_arms-bounds-arms-arm-index
fragile_arms-bounds-arms-arm-index g t c = c.loop-arm-test.true

pub fragile_arms-loop-arm-smaller : goal.fragile_arms-loop-arm-smaller
fragile_arms-loop-arm-smaller g t c = falls (length c.args.arms.now) c.loop-arm.arm-index c.loop-arm-test.true

pub fragile_arms-loop-arm-init : goal.fragile_arms-loop-arm-init
fragile_arms-loop-arm-init g t c = record {
  rest = refl;
  lighter = le_refl (arms_weight (bound_arms c.args.arms.now));
}
