use Rattle.std.proofs.Common.{ap, refl, arith}
use Rattle.std.proofs.lemmas.Result.{IfOk-from_err, on_ok_weaker}
use Rattle.expr.specs.Aggregates.{aggregates, all_aggregates, arms_aggregates}
use Rattle.expr.specs.Weights.{weight}
use Rattle.expr.proofs.Walks.{Gathers, parts_step, parts_over, arm_parts_step, arm_parts_over, case_parts_none, case_parts_some, and_is, or_is, case_none, case_some, case_lighter, exprs_lighter, exprs_still, when_lighter, result_lighter, arms_still, two_parts, three_parts, one_more}
use Rattle.expr.specs.View.{aggregate_call_of, bound_expr_of}
use Rattle.expr.proofs.Operands.{arithmetic_is, between_is, cast_is, comparison_is, in_is, is_null_is, negate_is, not_is}
use Rattle.memory.proofs.Lighter.{last_lighter, left_lighter, lighter, middle_lighter, right_lighter}
use Rattle.expr.proofs.aggregates.+aggregates.Goals as goal

gathers : Gathers aggregates all_aggregates arms_aggregates
gathers = record { none = refl; one = λ e es. refl; no_arm = refl; one_arm = λ when result as_. refl; otherwise_none = λ offset as_. refl; otherwise_some = λ offset as_ o. refl }

pub push_all_aggregates-loop-member-preserved : goal.push_all_aggregates-loop-member-preserved
push_all_aggregates-loop-member-preserved g t c = record {
  rest = parts_step aggregates all_aggregates arms_aggregates gathers _ _ c.args.members.now c.loop-member.member-index c.member-item.result c.loop-member-test.true c.member-item.is _ c.loop-member.invariant.rest c.in_ok-push_aggregates.ensures;
  lighter = exprs_still c.args.members.now c.loop-member.member-index c.member-item.result c.loop-member-test.true c.member-item.is c.loop-member.invariant.lighter;
}

pub push_all_aggregates-returns : goal.push_all_aggregates-returns
push_all_aggregates-returns g t c = parts_over aggregates all_aggregates arms_aggregates gathers _ _ c.args.members.now c.loop-member.member-index c.loop-member.invariant.rest (omega (arith, c.loop-member-test.false))

pub push_arms_aggregates-loop-arm-preserved : goal.push_arms_aggregates-loop-arm-preserved
push_arms_aggregates-loop-arm-preserved g t c = record {
  rest = arm_parts_step aggregates all_aggregates arms_aggregates gathers _ _ c.args.arms.now c.loop-arm.arm-index c.arm-item.result c.loop-arm-test.true c.arm-item.is _ _ c.loop-arm.invariant.rest c.in_ok-push_aggregates.ensures c.in_ok-push_aggregates-2.ensures;
  lighter = arms_still c.args.arms.now c.loop-arm.arm-index c.arm-item.result c.loop-arm-test.true c.arm-item.is c.loop-arm.invariant.lighter;
}

pub push_arms_aggregates-returns : goal.push_arms_aggregates-returns
push_arms_aggregates-returns g t c = arm_parts_over aggregates all_aggregates arms_aggregates gathers _ _ c.args.arms.now c.loop-arm.arm-index c.loop-arm.invariant.rest (omega (arith, c.loop-arm-test.false))

pub push_aggregates-push_all_aggregates-requires : goal.push_aggregates-push_all_aggregates-requires
push_aggregates-push_all_aggregates-requires g t c κs within = let w = ap weight (and_is c.args.expression.now c.in-And.offset c.in-And.members c.deref-in-And.result.now c.deref-in-And.ensures.value c.in-And.is) in (omega (arith, c.decreases, w), within)

pub push_aggregates-push_all_aggregates-requires-in-Or : goal.push_aggregates-push_all_aggregates-requires-in-Or
push_aggregates-push_all_aggregates-requires-in-Or g t c κs within = let w = ap weight (or_is c.args.expression.now c.in-Or.offset c.in-Or.members c.deref-in-Or.result.now c.deref-in-Or.ensures.value c.in-Or.is) in (omega (arith, c.decreases, w), within)

pub push_aggregates-push_arms_aggregates-requires : goal.push_aggregates-push_arms_aggregates-requires
push_aggregates-push_arms_aggregates-requires g t c κs within = let w = case_lighter c.args.expression.now c.in-Case.offset c.in-Case.arms c.deref-in-Case.result.now c.deref-in-Case.ensures.value c.in-Case.otherwise c.in-Case.is in (omega (arith, c.decreases, w), within)

pub push_aggregates-returns-in-And : goal.push_aggregates-returns-in-And
push_aggregates-returns-in-And g t c = rw (and_is c.args.expression.now c.in-And.offset c.in-And.members c.deref-in-And.result.now c.deref-in-And.ensures.value c.in-And.is) c.push_all_aggregates.ensures

pub push_aggregates-returns-in-Or : goal.push_aggregates-returns-in-Or
push_aggregates-returns-in-Or g t c = rw (or_is c.args.expression.now c.in-Or.offset c.in-Or.members c.deref-in-Or.result.now c.deref-in-Or.ensures.value c.in-Or.is) c.push_all_aggregates-in-Or.ensures

pub push_aggregates-returns-in-Some : goal.push_aggregates-returns-in-Some
push_aggregates-returns-in-Some g t c =
    on_ok_weaker c.push_aggregates-in-Some.result (case_parts_some aggregates all_aggregates arms_aggregates gathers _ _ c.in-Case.offset _ _ _ _
    (case_some c.args.expression.now c.in-Case.offset c.in-Case.arms c.deref-in-Case.result.now c.deref-in-Case.ensures.value c.in-Case.otherwise c.in-Case.is c.in-Some.value c.in-Some.is)
    c.in_ok-push_arms_aggregates-in-Case.ensures) (rw c.deref-in-Some.ensures at c.push_aggregates-in-Some.ensures)

pub push_aggregates-returns-in-None : goal.push_aggregates-returns-in-None
push_aggregates-returns-in-None g t c =
    case_parts_none aggregates all_aggregates arms_aggregates gathers _ _ c.in-Case.offset _ _
    (case_none c.args.expression.now c.in-Case.offset c.in-Case.arms c.deref-in-Case.result.now c.deref-in-Case.ensures.value c.in-Case.otherwise c.in-Case.is c.in-None.is)
    c.in_ok-push_arms_aggregates-in-Case.ensures

pub push_aggregates-push_aggregates-requires : goal.push_aggregates-push_aggregates-requires
push_aggregates-push_aggregates-requires g t c κs within = (lighter (weight (bound_expr_of c.deref.result.now)) _ t c.decreases (ap weight (negate_is c.args.expression.now c.in-Negate.offset c.in-Negate.operand c.deref.result.now c.deref.ensures c.in-Negate.is)), within)

pub push_aggregates-push_aggregates-requires-in-Arithmetic : goal.push_aggregates-push_aggregates-requires-in-Arithmetic
push_aggregates-push_aggregates-requires-in-Arithmetic g t c κs within = (left_lighter (weight (bound_expr_of c.deref-in-Arithmetic.result.now)) _ t c.decreases _ (ap weight (arithmetic_is c.args.expression.now c.in-Arithmetic.offset c.in-Arithmetic.left c.in-Arithmetic.right c.deref-in-Arithmetic.result.now c.deref-in-Arithmetic.ensures c.in-Arithmetic.right.value refl c.in-Arithmetic.operator c.in-Arithmetic.is)), within)

pub push_aggregates-push_aggregates-requires-in-Arithmetic-2 : goal.push_aggregates-push_aggregates-requires-in-Arithmetic-2
push_aggregates-push_aggregates-requires-in-Arithmetic-2 g t c κs within = (right_lighter (weight (bound_expr_of c.deref-in-Arithmetic-2.result.now)) _ t c.decreases _ (ap weight (arithmetic_is c.args.expression.now c.in-Arithmetic.offset c.in-Arithmetic.left c.in-Arithmetic.right c.in-Arithmetic.left.value refl c.deref-in-Arithmetic-2.result.now c.deref-in-Arithmetic-2.ensures c.in-Arithmetic.operator c.in-Arithmetic.is)), within)

pub push_aggregates-push_aggregates-requires-in-Comparison : goal.push_aggregates-push_aggregates-requires-in-Comparison
push_aggregates-push_aggregates-requires-in-Comparison g t c κs within = (left_lighter (weight (bound_expr_of c.deref-in-Comparison.result.now)) _ t c.decreases _ (ap weight (comparison_is c.args.expression.now c.in-Comparison.offset c.in-Comparison.left c.in-Comparison.right c.deref-in-Comparison.result.now c.deref-in-Comparison.ensures c.in-Comparison.right.value refl c.in-Comparison.operator c.in-Comparison.is)), within)

pub push_aggregates-push_aggregates-requires-in-Comparison-2 : goal.push_aggregates-push_aggregates-requires-in-Comparison-2
push_aggregates-push_aggregates-requires-in-Comparison-2 g t c κs within = (right_lighter (weight (bound_expr_of c.deref-in-Comparison-2.result.now)) _ t c.decreases _ (ap weight (comparison_is c.args.expression.now c.in-Comparison.offset c.in-Comparison.left c.in-Comparison.right c.in-Comparison.left.value refl c.deref-in-Comparison-2.result.now c.deref-in-Comparison-2.ensures c.in-Comparison.operator c.in-Comparison.is)), within)

pub push_aggregates-push_aggregates-requires-in-Between : goal.push_aggregates-push_aggregates-requires-in-Between
push_aggregates-push_aggregates-requires-in-Between g t c κs within = (left_lighter (weight (bound_expr_of c.deref-in-Between.result.now)) _ t c.decreases _ (ap weight (between_is c.args.expression.now c.in-Between.negated c.in-Between.offset c.in-Between.operand c.in-Between.low c.in-Between.high c.in-Between.is c.deref-in-Between.result.now c.deref-in-Between.ensures c.in-Between.low.value refl c.in-Between.high.value refl)), within)

pub push_aggregates-push_aggregates-requires-in-Between-2 : goal.push_aggregates-push_aggregates-requires-in-Between-2
push_aggregates-push_aggregates-requires-in-Between-2 g t c κs within = (middle_lighter (weight (bound_expr_of c.deref-in-Between-2.result.now)) _ t c.decreases _ _ (ap weight (between_is c.args.expression.now c.in-Between.negated c.in-Between.offset c.in-Between.operand c.in-Between.low c.in-Between.high c.in-Between.is c.in-Between.operand.value refl c.deref-in-Between-2.result.now c.deref-in-Between-2.ensures c.in-Between.high.value refl)), within)

pub push_aggregates-push_aggregates-requires-in-Between-3 : goal.push_aggregates-push_aggregates-requires-in-Between-3
push_aggregates-push_aggregates-requires-in-Between-3 g t c κs within = (last_lighter (weight (bound_expr_of c.deref-in-Between-3.result.now)) _ t c.decreases _ _ (ap weight (between_is c.args.expression.now c.in-Between.negated c.in-Between.offset c.in-Between.operand c.in-Between.low c.in-Between.high c.in-Between.is c.in-Between.operand.value refl c.in-Between.low.value refl c.deref-in-Between-3.result.now c.deref-in-Between-3.ensures)), within)

pub push_aggregates-push_aggregates-requires-in-In : goal.push_aggregates-push_aggregates-requires-in-In
push_aggregates-push_aggregates-requires-in-In g t c κs within = (lighter (weight (bound_expr_of c.deref-in-In.result.now)) _ t c.decreases (ap weight (in_is c.args.expression.now c.in-In.negated c.in-In.offset c.in-In.values c.in-In.operand c.in-In.is c.deref-in-In.result.now c.deref-in-In.ensures)), within)

pub push_aggregates-push_aggregates-requires-in-IsNull : goal.push_aggregates-push_aggregates-requires-in-IsNull
push_aggregates-push_aggregates-requires-in-IsNull g t c κs within = (lighter (weight (bound_expr_of c.deref-in-IsNull.result.now)) _ t c.decreases (ap weight (is_null_is c.args.expression.now c.in-IsNull.offset c.in-IsNull.operand c.deref-in-IsNull.result.now c.deref-in-IsNull.ensures c.in-IsNull.negated c.in-IsNull.is)), within)

pub push_aggregates-push_aggregates-requires-in-Not : goal.push_aggregates-push_aggregates-requires-in-Not
push_aggregates-push_aggregates-requires-in-Not g t c κs within = (lighter (weight (bound_expr_of c.deref-in-Not.result.now)) _ t c.decreases (ap weight (not_is c.args.expression.now c.in-Not.offset c.in-Not.operand c.deref-in-Not.result.now c.deref-in-Not.ensures c.in-Not.is)), within)

pub push_aggregates-push_aggregates-requires-in-Cast : goal.push_aggregates-push_aggregates-requires-in-Cast
push_aggregates-push_aggregates-requires-in-Cast g t c κs within = (lighter (weight (bound_expr_of c.deref-in-Cast.result.now)) _ t c.decreases (ap weight (cast_is c.args.expression.now c.in-Cast.offset c.in-Cast.operand c.deref-in-Cast.result.now c.deref-in-Cast.ensures c.in-Cast.to c.in-Cast.is)), within)

pub push_aggregates-returns-in-CountStar : goal.push_aggregates-returns-in-CountStar
push_aggregates-returns-in-CountStar g t c = on_ok_weaker c.push.result (λ n. one_more (λ x. aggregate_call_of x) _ _ _ _ n (ap aggregates (ap bound_expr_of c.in-CountStar.is))) c.push.ensures.ok

pub push_aggregates-returns-in-Call : goal.push_aggregates-returns-in-Call
push_aggregates-returns-in-Call g t c = on_ok_weaker c.push-in-Call.result (λ n. one_more (λ x. aggregate_call_of x) _ _ _ _ n (rw c.deref-in-Call.ensures (ap aggregates (ap bound_expr_of c.in-Call.is)))) c.push-in-Call.ensures.ok

pub push_all_aggregates-loop-member-smaller : goal.push_all_aggregates-loop-member-smaller
push_all_aggregates-loop-member-smaller g t c = omega (arith, c.loop-member-test.true)

pub push_arms_aggregates-loop-arm-smaller : goal.push_arms_aggregates-loop-arm-smaller
push_arms_aggregates-loop-arm-smaller g t c = omega (arith, c.loop-arm-test.true)

pub push_aggregates-returns-in-Negate : goal.push_aggregates-returns-in-Negate
push_aggregates-returns-in-Negate g t c = rw (ap bound_expr_of c.in-Negate.is) (rw c.deref.ensures at c.push_aggregates.ensures)

pub push_aggregates-returns-in-In : goal.push_aggregates-returns-in-In
push_aggregates-returns-in-In g t c = rw (ap bound_expr_of c.in-In.is) (rw c.deref-in-In.ensures at c.push_aggregates-in-In.ensures)

pub push_aggregates-returns-in-IsNull : goal.push_aggregates-returns-in-IsNull
push_aggregates-returns-in-IsNull g t c = rw (ap bound_expr_of c.in-IsNull.is) (rw c.deref-in-IsNull.ensures at c.push_aggregates-in-IsNull.ensures)

pub push_aggregates-returns-in-Not : goal.push_aggregates-returns-in-Not
push_aggregates-returns-in-Not g t c = rw (ap bound_expr_of c.in-Not.is) (rw c.deref-in-Not.ensures at c.push_aggregates-in-Not.ensures)

pub push_aggregates-returns-in-Cast : goal.push_aggregates-returns-in-Cast
push_aggregates-returns-in-Cast g t c = rw (ap bound_expr_of c.in-Cast.is) (rw c.deref-in-Cast.ensures at c.push_aggregates-in-Cast.ensures)

pub push_aggregates-returns-in_ok-push_aggregates-in-Arithmetic : goal.push_aggregates-returns-in_ok-push_aggregates-in-Arithmetic
push_aggregates-returns-in_ok-push_aggregates-in-Arithmetic g t c = rw (ap bound_expr_of c.in-Arithmetic.is) (on_ok_weaker c.push_aggregates-in-Arithmetic-2.result (two_parts _ _ _ _ _ _ (ap (λ e. aggregates (bound_expr_of e)) c.deref-in-Arithmetic.ensures) c.in_ok-push_aggregates-in-Arithmetic.ensures) (rw c.deref-in-Arithmetic-2.ensures at c.push_aggregates-in-Arithmetic-2.ensures))

pub push_aggregates-returns-in_ok-push_aggregates-in-Comparison : goal.push_aggregates-returns-in_ok-push_aggregates-in-Comparison
push_aggregates-returns-in_ok-push_aggregates-in-Comparison g t c = rw (ap bound_expr_of c.in-Comparison.is) (on_ok_weaker c.push_aggregates-in-Comparison-2.result (two_parts _ _ _ _ _ _ (ap (λ e. aggregates (bound_expr_of e)) c.deref-in-Comparison.ensures) c.in_ok-push_aggregates-in-Comparison.ensures) (rw c.deref-in-Comparison-2.ensures at c.push_aggregates-in-Comparison-2.ensures))

pub push_aggregates-returns-in_ok-push_aggregates-in-Between-2 : goal.push_aggregates-returns-in_ok-push_aggregates-in-Between-2
push_aggregates-returns-in_ok-push_aggregates-in-Between-2 g t c = rw (ap bound_expr_of c.in-Between.is) (on_ok_weaker c.push_aggregates-in-Between-3.result (three_parts _ _ _ _ _ _ _ _ _ (ap (λ e. aggregates (bound_expr_of e)) c.deref-in-Between.ensures) (ap (λ e. aggregates (bound_expr_of e)) c.deref-in-Between-2.ensures) c.in_ok-push_aggregates-in-Between.ensures c.in_ok-push_aggregates-in-Between-2.ensures) (rw c.deref-in-Between-3.ensures at c.push_aggregates-in-Between-3.ensures))

pub push_aggregates-returns-in_err-push_aggregates-in-Arithmetic : goal.push_aggregates-returns-in_err-push_aggregates-in-Arithmetic
push_aggregates-returns-in_err-push_aggregates-in-Arithmetic g t c = IfOk-from_err c.from_residual.result _ c.from_residual.ensures.0

pub push_aggregates-returns-in_err-push_aggregates-in-Comparison : goal.push_aggregates-returns-in_err-push_aggregates-in-Comparison
push_aggregates-returns-in_err-push_aggregates-in-Comparison g t c = IfOk-from_err c.from_residual-in_err-push_aggregates-in-Comparison.result _ c.from_residual-in_err-push_aggregates-in-Comparison.ensures.0

pub push_aggregates-returns-in_err-push_aggregates-in-Between : goal.push_aggregates-returns-in_err-push_aggregates-in-Between
push_aggregates-returns-in_err-push_aggregates-in-Between g t c = IfOk-from_err c.from_residual-in_err-push_aggregates-in-Between.result _ c.from_residual-in_err-push_aggregates-in-Between.ensures.0

pub push_aggregates-returns-in_err-push_aggregates-in-Between-2 : goal.push_aggregates-returns-in_err-push_aggregates-in-Between-2
push_aggregates-returns-in_err-push_aggregates-in-Between-2 g t c = IfOk-from_err c.from_residual-in_err-push_aggregates-in-Between-2.result _ c.from_residual-in_err-push_aggregates-in-Between-2.ensures.0

pub push_aggregates-returns-in_err-push_arms_aggregates-in-Case : goal.push_aggregates-returns-in_err-push_arms_aggregates-in-Case
push_aggregates-returns-in_err-push_arms_aggregates-in-Case g t c = IfOk-from_err c.from_residual-in_err-push_arms_aggregates-in-Case.result _ c.from_residual-in_err-push_arms_aggregates-in-Case.ensures.0

pub push_all_aggregates-returns-in_err-push_aggregates : goal.push_all_aggregates-returns-in_err-push_aggregates
push_all_aggregates-returns-in_err-push_aggregates g t c = IfOk-from_err c.from_residual.result _ c.from_residual.ensures.0

pub push_arms_aggregates-returns-in_err-push_aggregates : goal.push_arms_aggregates-returns-in_err-push_aggregates
push_arms_aggregates-returns-in_err-push_aggregates g t c = IfOk-from_err c.from_residual.result _ c.from_residual.ensures.0

pub push_arms_aggregates-returns-in_err-push_aggregates-2 : goal.push_arms_aggregates-returns-in_err-push_aggregates-2
push_arms_aggregates-returns-in_err-push_aggregates-2 g t c = IfOk-from_err c.from_residual-in_err-push_aggregates-2.result _ c.from_residual-in_err-push_aggregates-2.ensures.0

pub push_aggregates-push_aggregates-requires-in-Some : goal.push_aggregates-push_aggregates-requires-in-Some
push_aggregates-push_aggregates-requires-in-Some g t c κs within = let w = ap weight (case_some c.args.expression.now c.in-Case.offset c.in-Case.arms c.deref-in-Case.result.now c.deref-in-Case.ensures.value c.in-Case.otherwise c.in-Case.is c.in-Some.value c.in-Some.is) in let e = ap (λ e. weight (bound_expr_of e)) c.deref-in-Some.ensures in (omega (arith, c.decreases, w, e), within)

pub push_all_aggregates-push_aggregates-requires : goal.push_all_aggregates-push_aggregates-requires
push_all_aggregates-push_aggregates-requires g t c κs within = let w = exprs_lighter c.args.members.now c.loop-member.member-index c.member-item.result c.loop-member-test.true c.member-item.is c.loop-member.invariant.lighter in (omega (arith, c.decreases, w), within)

pub push_arms_aggregates-push_aggregates-requires : goal.push_arms_aggregates-push_aggregates-requires
push_arms_aggregates-push_aggregates-requires g t c κs within = let w = when_lighter c.args.arms.now c.loop-arm.arm-index c.arm-item.result c.loop-arm-test.true c.arm-item.is c.loop-arm.invariant.lighter in (omega (arith, c.decreases, w), within)

pub push_arms_aggregates-push_aggregates-requires-in-loop-arm : goal.push_arms_aggregates-push_aggregates-requires-in-loop-arm
push_arms_aggregates-push_aggregates-requires-in-loop-arm g t c κs within = let w = result_lighter c.args.arms.now c.loop-arm.arm-index c.arm-item.result c.loop-arm-test.true c.arm-item.is c.loop-arm.invariant.lighter in (omega (arith, c.decreases, w), within)
