use Rattle.std.proofs.Common.{ap, refl, arith}
use Rattle.expr.specs.View.{bound_expr_of}
use Rattle.expr.specs.Weights.{weight}
use Rattle.expr.proofs.Walks.{and_is, or_is, case_lighter, case_some, exprs_lighter, exprs_still, when_lighter, result_lighter, arms_still}
use Rattle.expr.proofs.Operands.{arithmetic_is, between_is, cast_is, comparison_is, in_is, is_null_is, negate_is, not_is}
use Rattle.memory.proofs.Lighter.{last_lighter, left_lighter, lighter, middle_lighter, right_lighter}
use Rattle.trailcheck.proofs.sizes.+size.Goals as goal

pub add_size-add_sizes-requires : goal.add_size-add_sizes-requires
add_size-add_sizes-requires g t c κs within = let w = ap weight (and_is c.args.expression.now c.in-And.offset c.in-And.members c.deref-in-And.result.now c.deref-in-And.ensures.value c.in-And.is) in (omega (arith, c.decreases, w), within)

pub add_size-add_sizes-requires-in-Or : goal.add_size-add_sizes-requires-in-Or
add_size-add_sizes-requires-in-Or g t c κs within = let w = ap weight (or_is c.args.expression.now c.in-Or.offset c.in-Or.members c.deref-in-Or.result.now c.deref-in-Or.ensures.value c.in-Or.is) in (omega (arith, c.decreases, w), within)

pub add_size-add_arms-requires : goal.add_size-add_arms-requires
add_size-add_arms-requires g t c κs within = let w = case_lighter c.args.expression.now c.in-Case.offset c.in-Case.arms c.deref-in-Case.result.now c.deref-in-Case.ensures.value c.in-Case.otherwise c.in-Case.is in (omega (arith, c.decreases, w), within)

pub add_size-add_size-requires : goal.add_size-add_size-requires
add_size-add_size-requires g t c κs within = (lighter (weight (bound_expr_of c.deref.result.now)) _ t c.decreases (ap weight (negate_is c.args.expression.now c.in-Negate.offset c.in-Negate.operand c.deref.result.now c.deref.ensures c.in-Negate.is)), within)

pub add_size-add_size-requires-in-Arithmetic : goal.add_size-add_size-requires-in-Arithmetic
add_size-add_size-requires-in-Arithmetic g t c κs within = (left_lighter (weight (bound_expr_of c.deref-in-Arithmetic.result.now)) _ t c.decreases _ (ap weight (arithmetic_is c.args.expression.now c.in-Arithmetic.offset c.in-Arithmetic.left c.in-Arithmetic.right c.deref-in-Arithmetic.result.now c.deref-in-Arithmetic.ensures c.in-Arithmetic.right.value refl c.in-Arithmetic.operator c.in-Arithmetic.is)), within)

pub add_size-add_size-requires-in-Arithmetic-2 : goal.add_size-add_size-requires-in-Arithmetic-2
add_size-add_size-requires-in-Arithmetic-2 g t c κs within = (right_lighter (weight (bound_expr_of c.deref-in-Arithmetic-2.result.now)) _ t c.decreases _ (ap weight (arithmetic_is c.args.expression.now c.in-Arithmetic.offset c.in-Arithmetic.left c.in-Arithmetic.right c.in-Arithmetic.left.value refl c.deref-in-Arithmetic-2.result.now c.deref-in-Arithmetic-2.ensures c.in-Arithmetic.operator c.in-Arithmetic.is)), within)

pub add_size-add_size-requires-in-Comparison : goal.add_size-add_size-requires-in-Comparison
add_size-add_size-requires-in-Comparison g t c κs within = (left_lighter (weight (bound_expr_of c.deref-in-Comparison.result.now)) _ t c.decreases _ (ap weight (comparison_is c.args.expression.now c.in-Comparison.offset c.in-Comparison.left c.in-Comparison.right c.deref-in-Comparison.result.now c.deref-in-Comparison.ensures c.in-Comparison.right.value refl c.in-Comparison.operator c.in-Comparison.is)), within)

pub add_size-add_size-requires-in-Comparison-2 : goal.add_size-add_size-requires-in-Comparison-2
add_size-add_size-requires-in-Comparison-2 g t c κs within = (right_lighter (weight (bound_expr_of c.deref-in-Comparison-2.result.now)) _ t c.decreases _ (ap weight (comparison_is c.args.expression.now c.in-Comparison.offset c.in-Comparison.left c.in-Comparison.right c.in-Comparison.left.value refl c.deref-in-Comparison-2.result.now c.deref-in-Comparison-2.ensures c.in-Comparison.operator c.in-Comparison.is)), within)

pub add_size-add_size-requires-in-Between : goal.add_size-add_size-requires-in-Between
add_size-add_size-requires-in-Between g t c κs within = (left_lighter (weight (bound_expr_of c.deref-in-Between.result.now)) _ t c.decreases _ (ap weight (between_is c.args.expression.now c.in-Between.negated c.in-Between.offset c.in-Between.operand c.in-Between.low c.in-Between.high c.in-Between.is c.deref-in-Between.result.now c.deref-in-Between.ensures c.in-Between.low.value refl c.in-Between.high.value refl)), within)

pub add_size-add_size-requires-in-Between-2 : goal.add_size-add_size-requires-in-Between-2
add_size-add_size-requires-in-Between-2 g t c κs within = (middle_lighter (weight (bound_expr_of c.deref-in-Between-2.result.now)) _ t c.decreases _ _ (ap weight (between_is c.args.expression.now c.in-Between.negated c.in-Between.offset c.in-Between.operand c.in-Between.low c.in-Between.high c.in-Between.is c.in-Between.operand.value refl c.deref-in-Between-2.result.now c.deref-in-Between-2.ensures c.in-Between.high.value refl)), within)

pub add_size-add_size-requires-in-Between-3 : goal.add_size-add_size-requires-in-Between-3
add_size-add_size-requires-in-Between-3 g t c κs within = (last_lighter (weight (bound_expr_of c.deref-in-Between-3.result.now)) _ t c.decreases _ _ (ap weight (between_is c.args.expression.now c.in-Between.negated c.in-Between.offset c.in-Between.operand c.in-Between.low c.in-Between.high c.in-Between.is c.in-Between.operand.value refl c.in-Between.low.value refl c.deref-in-Between-3.result.now c.deref-in-Between-3.ensures)), within)

pub add_size-add_size-requires-in-In : goal.add_size-add_size-requires-in-In
add_size-add_size-requires-in-In g t c κs within = (lighter (weight (bound_expr_of c.deref-in-In.result.now)) _ t c.decreases (ap weight (in_is c.args.expression.now c.in-In.negated c.in-In.offset c.in-In.values c.in-In.operand c.in-In.is c.deref-in-In.result.now c.deref-in-In.ensures)), within)

pub add_size-add_size-requires-in-IsNull : goal.add_size-add_size-requires-in-IsNull
add_size-add_size-requires-in-IsNull g t c κs within = (lighter (weight (bound_expr_of c.deref-in-IsNull.result.now)) _ t c.decreases (ap weight (is_null_is c.args.expression.now c.in-IsNull.offset c.in-IsNull.operand c.deref-in-IsNull.result.now c.deref-in-IsNull.ensures c.in-IsNull.negated c.in-IsNull.is)), within)

pub add_size-add_size-requires-in-Not : goal.add_size-add_size-requires-in-Not
add_size-add_size-requires-in-Not g t c κs within = (lighter (weight (bound_expr_of c.deref-in-Not.result.now)) _ t c.decreases (ap weight (not_is c.args.expression.now c.in-Not.offset c.in-Not.operand c.deref-in-Not.result.now c.deref-in-Not.ensures c.in-Not.is)), within)

pub add_size-add_size-requires-in-Cast : goal.add_size-add_size-requires-in-Cast
add_size-add_size-requires-in-Cast g t c κs within = (lighter (weight (bound_expr_of c.deref-in-Cast.result.now)) _ t c.decreases (ap weight (cast_is c.args.expression.now c.in-Cast.offset c.in-Cast.operand c.deref-in-Cast.result.now c.deref-in-Cast.ensures c.in-Cast.to c.in-Cast.is)), within)

pub add_sizes-loop-member-smaller : goal.add_sizes-loop-member-smaller
add_sizes-loop-member-smaller g t c = omega (arith, c.loop-member-test.true)

pub add_arms-loop-arm-smaller : goal.add_arms-loop-arm-smaller
add_arms-loop-arm-smaller g t c = omega (arith, c.loop-arm-test.true)

pub add_size-add_size-requires-in-Some : goal.add_size-add_size-requires-in-Some
add_size-add_size-requires-in-Some g t c κs within = let w = ap weight (case_some c.args.expression.now c.in-Case.offset c.in-Case.arms c.deref-in-Case.result.now c.deref-in-Case.ensures.value c.in-Case.otherwise c.in-Case.is c.in-Some.value c.in-Some.is) in let e = ap (λ e. weight (bound_expr_of e)) c.deref-in-Some.ensures in (omega (arith, c.decreases, w, e), within)

pub add_sizes-add_size-requires : goal.add_sizes-add_size-requires
add_sizes-add_size-requires g t c κs within = let w = exprs_lighter c.args.members.now c.loop-member.member-index c.member-item.result c.loop-member-test.true c.member-item.is c.loop-member.invariant in (omega (arith, c.decreases, w), within)

pub add_arms-add_size-requires : goal.add_arms-add_size-requires
add_arms-add_size-requires g t c κs within = let w = when_lighter c.args.arms.now c.loop-arm.arm-index c.arm-item.result c.loop-arm-test.true c.arm-item.is c.loop-arm.invariant in (omega (arith, c.decreases, w), within)

pub add_arms-add_size-requires-in-loop-arm : goal.add_arms-add_size-requires-in-loop-arm
add_arms-add_size-requires-in-loop-arm g t c κs within = let w = result_lighter c.args.arms.now c.loop-arm.arm-index c.arm-item.result c.loop-arm-test.true c.arm-item.is c.loop-arm.invariant in (omega (arith, c.decreases, w), within)

pub add_sizes-loop-member-preserved : goal.add_sizes-loop-member-preserved
add_sizes-loop-member-preserved g t c = exprs_still c.args.members.now c.loop-member.member-index c.member-item.result c.loop-member-test.true c.member-item.is c.loop-member.invariant

pub add_arms-loop-arm-preserved : goal.add_arms-loop-arm-preserved
add_arms-loop-arm-preserved g t c = arms_still c.args.arms.now c.loop-arm.arm-index c.arm-item.result c.loop-arm-test.true c.arm-item.is c.loop-arm.invariant
