use borrow.Author.Count.{falls}
use Rattle.std.proofs.Common.{◌∙◌, ◌<◌, length, ap, refl, map, subst, arith}
use Rattle.std.proofs.Math.Nat.{le_refl}
use Rattle.row_ast.specs.View.{expr_of, exprs, arms as arms_of}
use Rattle.row_ast.specs.Weights.{weight, all_weight, arms_weight}
use Rattle.scope.specs.View.{entry_of}
use Rattle.row_ast.proofs.Walks.{and_is, or_is, case_none, case_other, case_lighter, otherwise_lighter, exprs_still, arms_still, exprs_lighter, when_lighter, result_lighter}
use Rattle.row_ast.proofs.Operands.{negate_is, in_is, is_null_is, not_is, cast_is, call_is, arithmetic_is, comparison_is, between_is}
use Rattle.memory.proofs.Lighter.{lighter, left_lighter, right_lighter, middle_lighter, last_lighter}
use Rattle.typing.specs.Grouping.{misplaced_call}
use Rattle.expr.proofs.FragileWalks.{least_is}
use Rattle.typing.proofs.GroupedWalks.{misplaced_as, column_is, misplaced_step, misplaced_over, misplaced_arm_step, misplaced_arms_over}
use Rattle.typing.proofs.grouped.+misplaced.Goals as goal

-- ---- each call is on less

pub misplaced-misplaced-requires : goal.misplaced-misplaced-requires
misplaced-misplaced-requires g t c κs within = (lighter (weight (expr_of c.deref.result.now)) _ t c.decreases (ap weight (negate_is c.args.expression.now c.in-Negate.offset c.in-Negate.operand c.deref.result.now c.deref.ensures c.in-Negate.is)), within)

pub misplaced-misplaced-left-requires : goal.misplaced-misplaced-left-requires
misplaced-misplaced-left-requires g t c κs within = (left_lighter (weight (expr_of c.deref-in-Arithmetic.result.now)) _ t c.decreases _ (ap weight (arithmetic_is c.args.expression.now c.in-Arithmetic.offset c.in-Arithmetic.left c.in-Arithmetic.right c.deref-in-Arithmetic.result.now c.deref-in-Arithmetic.ensures _ refl c.in-Arithmetic.operator c.in-Arithmetic.is)), within)

pub misplaced-misplaced-requires-in-Arithmetic : goal.misplaced-misplaced-requires-in-Arithmetic
misplaced-misplaced-requires-in-Arithmetic g t c κs within = (right_lighter (weight (expr_of c.deref-in-Arithmetic-2.result.now)) _ t c.decreases _ (ap weight (arithmetic_is c.args.expression.now c.in-Arithmetic.offset c.in-Arithmetic.left c.in-Arithmetic.right c.deref-in-Arithmetic.result.now c.deref-in-Arithmetic.ensures c.deref-in-Arithmetic-2.result.now c.deref-in-Arithmetic-2.ensures c.in-Arithmetic.operator c.in-Arithmetic.is)), within)

pub misplaced-misplaced-left-requires-in-Comparison : goal.misplaced-misplaced-left-requires-in-Comparison
misplaced-misplaced-left-requires-in-Comparison g t c κs within = (left_lighter (weight (expr_of c.deref-in-Comparison.result.now)) _ t c.decreases _ (ap weight (comparison_is c.args.expression.now c.in-Comparison.offset c.in-Comparison.left c.in-Comparison.right c.deref-in-Comparison.result.now c.deref-in-Comparison.ensures _ refl c.in-Comparison.operator c.in-Comparison.is)), within)

pub misplaced-misplaced-requires-in-Comparison : goal.misplaced-misplaced-requires-in-Comparison
misplaced-misplaced-requires-in-Comparison g t c κs within = (right_lighter (weight (expr_of c.deref-in-Comparison-2.result.now)) _ t c.decreases _ (ap weight (comparison_is c.args.expression.now c.in-Comparison.offset c.in-Comparison.left c.in-Comparison.right c.deref-in-Comparison.result.now c.deref-in-Comparison.ensures c.deref-in-Comparison-2.result.now c.deref-in-Comparison-2.ensures c.in-Comparison.operator c.in-Comparison.is)), within)

pub misplaced-misplaced-operand-requires : goal.misplaced-misplaced-operand-requires
misplaced-misplaced-operand-requires g t c κs within = (left_lighter (weight (expr_of c.deref-in-Between.result.now)) _ t c.decreases _ (ap weight (between_is c.args.expression.now c.in-Between.offset c.in-Between.operand c.in-Between.low c.deref-in-Between.result.now c.deref-in-Between.ensures _ refl c.in-Between.high _ refl c.in-Between.negated c.in-Between.is)), within)

pub misplaced-misplaced-low-requires : goal.misplaced-misplaced-low-requires
misplaced-misplaced-low-requires g t c κs within = (middle_lighter (weight (expr_of c.deref-in-Between-2.result.now)) _ t c.decreases _ _ (ap weight (between_is c.args.expression.now c.in-Between.offset c.in-Between.operand c.in-Between.low c.deref-in-Between.result.now c.deref-in-Between.ensures c.deref-in-Between-2.result.now c.deref-in-Between-2.ensures c.in-Between.high _ refl c.in-Between.negated c.in-Between.is)), within)

pub misplaced-misplaced-high-requires : goal.misplaced-misplaced-high-requires
misplaced-misplaced-high-requires g t c κs within = (last_lighter (weight (expr_of c.deref-in-Between-3.result.now)) _ t c.decreases _ _ (ap weight (between_is c.args.expression.now c.in-Between.offset c.in-Between.operand c.in-Between.low c.deref-in-Between.result.now c.deref-in-Between.ensures c.deref-in-Between-2.result.now c.deref-in-Between-2.ensures c.in-Between.high c.deref-in-Between-3.result.now c.deref-in-Between-3.ensures c.in-Between.negated c.in-Between.is)), within)

pub misplaced-misplaced-requires-in-In : goal.misplaced-misplaced-requires-in-In
misplaced-misplaced-requires-in-In g t c κs within = (lighter (weight (expr_of c.deref-in-In.result.now)) _ t c.decreases (ap weight (in_is c.args.expression.now c.in-In.offset c.in-In.operand c.deref-in-In.result.now c.deref-in-In.ensures c.in-In.negated c.in-In.values c.in-In.is)), within)

pub misplaced-misplaced-requires-in-IsNull : goal.misplaced-misplaced-requires-in-IsNull
misplaced-misplaced-requires-in-IsNull g t c κs within = (lighter (weight (expr_of c.deref-in-IsNull.result.now)) _ t c.decreases (ap weight (is_null_is c.args.expression.now c.in-IsNull.offset c.in-IsNull.operand c.deref-in-IsNull.result.now c.deref-in-IsNull.ensures c.in-IsNull.negated c.in-IsNull.is)), within)

pub misplaced-misplaced-requires-in-Not : goal.misplaced-misplaced-requires-in-Not
misplaced-misplaced-requires-in-Not g t c κs within = (lighter (weight (expr_of c.deref-in-Not.result.now)) _ t c.decreases (ap weight (not_is c.args.expression.now c.in-Not.offset c.in-Not.operand c.deref-in-Not.result.now c.deref-in-Not.ensures c.in-Not.is)), within)

pub misplaced-misplaced-requires-in-Cast : goal.misplaced-misplaced-requires-in-Cast
misplaced-misplaced-requires-in-Cast g t c κs within = (lighter (weight (expr_of c.deref-in-Cast.result.now)) _ t c.decreases (ap weight (cast_is c.args.expression.now c.in-Cast.offset c.in-Cast.operand c.deref-in-Cast.result.now c.deref-in-Cast.ensures c.in-Cast.to c.in-Cast.is)), within)

pub misplaced-misplaced-inner-requires : goal.misplaced-misplaced-inner-requires
misplaced-misplaced-inner-requires g t c κs within = (lighter (weight (expr_of c.deref-in-Call.result.now)) _ t c.decreases (ap weight (call_is c.args.expression.now c.in-Call.offset c.in-Call.argument c.deref-in-Call.result.now c.deref-in-Call.ensures c.in-Call.aggregate c.in-Call.is)), within)

pub misplaced-misplaced_members-requires : goal.misplaced-misplaced_members-requires
misplaced-misplaced_members-requires g t c κs within = (lighter (all_weight (exprs c.deref-in-And.result.now)) _ t c.decreases (ap weight (and_is c.args.expression.now c.in-And.offset c.in-And.members c.deref-in-And.result.now c.deref-in-And.ensures.value c.in-And.is)), within)

pub misplaced-misplaced_members-requires-in-Or : goal.misplaced-misplaced_members-requires-in-Or
misplaced-misplaced_members-requires-in-Or g t c κs within = (lighter (all_weight (exprs c.deref-in-Or.result.now)) _ t c.decreases (ap weight (or_is c.args.expression.now c.in-Or.offset c.in-Or.members c.deref-in-Or.result.now c.deref-in-Or.ensures.value c.in-Or.is)), within)

pub misplaced-misplaced_arms-arms-requires : goal.misplaced-misplaced_arms-arms-requires
misplaced-misplaced_arms-arms-requires g t c κs within = (subst (λ n. arms_weight (arms_of c.deref-in-Case.result.now) < n) c.decreases (case_lighter c.args.expression.now c.in-Case.offset c.in-Case.arms c.deref-in-Case.result.now c.deref-in-Case.ensures.value c.in-Case.otherwise c.in-Case.is), within)

pub misplaced-misplaced-requires-in-Some : goal.misplaced-misplaced-requires-in-Some
misplaced-misplaced-requires-in-Some g t c κs within = (subst (λ n. weight (expr_of c.deref-in-Some.result.now) < n) c.decreases (otherwise_lighter c.args.expression.now c.in-Case.offset c.in-Case.arms c.deref-in-Case.result.now c.deref-in-Case.ensures.value c.in-Case.otherwise c.in-Case.is c.in-Some.value c.in-Some.is c.deref-in-Some.result.now c.deref-in-Some.ensures), within)

pub misplaced_members-misplaced-requires : goal.misplaced_members-misplaced-requires
misplaced_members-misplaced-requires g t c κs within = (subst (λ n. weight (expr_of c.member-item.result) < n) c.decreases (exprs_lighter c.args.members.now c.loop-member.member-index c.member-item.result c.loop-member-test.true c.member-item.is c.loop-member.invariant.lighter), within)

pub misplaced_arms-misplaced-when-requires : goal.misplaced_arms-misplaced-when-requires
misplaced_arms-misplaced-when-requires g t c κs within = (subst (λ n. weight (expr_of c.arm-item.result.when) < n) c.decreases (when_lighter c.args.arms.now c.loop-arm.arm-index c.arm-item.result c.loop-arm-test.true c.arm-item.is c.loop-arm.invariant.lighter), within)

pub misplaced_arms-misplaced-result-requires : goal.misplaced_arms-misplaced-result-requires
misplaced_arms-misplaced-result-requires g t c κs within = (subst (λ n. weight (expr_of c.arm-item.result.result) < n) c.decreases (result_lighter c.args.arms.now c.loop-arm.arm-index c.arm-item.result c.loop-arm-test.true c.arm-item.is c.loop-arm.invariant.lighter), within)

-- ---- the result of each node

pub misplaced-returns-in-Column : goal.misplaced-returns-in-Column
misplaced-returns-in-Column g t c = misplaced_as (map (λ e. entry_of e) c.args.entries.now) c.args.scope c.args.group_by.now c.args.of_groups _ _ _ (ap expr_of c.in-Column.is) (column_is (map (λ e. entry_of e) c.args.entries.now) c.args.scope c.args.group_by.now c.args.of_groups _ _ _ c.find_column-found.ensures c.misplaced_column.ensures)

pub misplaced-returns-in-Negate : goal.misplaced-returns-in-Negate
misplaced-returns-in-Negate g t c = misplaced_as (map (λ e. entry_of e) c.args.entries.now) c.args.scope c.args.group_by.now c.args.of_groups _ _ _ (negate_is c.args.expression.now c.in-Negate.offset c.in-Negate.operand c.deref.result.now c.deref.ensures c.in-Negate.is) c.misplaced.ensures

pub misplaced-returns-in-Arithmetic : goal.misplaced-returns-in-Arithmetic
misplaced-returns-in-Arithmetic g t c = misplaced_as (map (λ e. entry_of e) c.args.entries.now) c.args.scope c.args.group_by.now c.args.of_groups _ _ _ (arithmetic_is c.args.expression.now c.in-Arithmetic.offset c.in-Arithmetic.left c.in-Arithmetic.right c.deref-in-Arithmetic.result.now c.deref-in-Arithmetic.ensures c.deref-in-Arithmetic-2.result.now c.deref-in-Arithmetic-2.ensures c.in-Arithmetic.operator c.in-Arithmetic.is) (least_is _ _ _ _ _ c.least_of.ensures c.misplaced-left.ensures c.misplaced-in-Arithmetic.ensures)

pub misplaced-returns-in-Comparison : goal.misplaced-returns-in-Comparison
misplaced-returns-in-Comparison g t c = misplaced_as (map (λ e. entry_of e) c.args.entries.now) c.args.scope c.args.group_by.now c.args.of_groups _ _ _ (comparison_is c.args.expression.now c.in-Comparison.offset c.in-Comparison.left c.in-Comparison.right c.deref-in-Comparison.result.now c.deref-in-Comparison.ensures c.deref-in-Comparison-2.result.now c.deref-in-Comparison-2.ensures c.in-Comparison.operator c.in-Comparison.is) (least_is _ _ _ _ _ c.least_of-in-Comparison.ensures c.misplaced-left-in-Comparison.ensures c.misplaced-in-Comparison.ensures)

pub misplaced-returns-in-Between : goal.misplaced-returns-in-Between
misplaced-returns-in-Between g t c = misplaced_as (map (λ e. entry_of e) c.args.entries.now) c.args.scope c.args.group_by.now c.args.of_groups _ _ _ (between_is c.args.expression.now c.in-Between.offset c.in-Between.operand c.in-Between.low c.deref-in-Between.result.now c.deref-in-Between.ensures c.deref-in-Between-2.result.now c.deref-in-Between-2.ensures c.in-Between.high c.deref-in-Between-3.result.now c.deref-in-Between-3.ensures c.in-Between.negated c.in-Between.is) (least_is _ _ _ _ _ c.least_of-in-Between-2.ensures c.misplaced-operand.ensures (least_is _ _ _ _ _ c.least_of-in-Between.ensures c.misplaced-low.ensures c.misplaced-high.ensures))

pub misplaced-returns-in-In : goal.misplaced-returns-in-In
misplaced-returns-in-In g t c = misplaced_as (map (λ e. entry_of e) c.args.entries.now) c.args.scope c.args.group_by.now c.args.of_groups _ _ _ (in_is c.args.expression.now c.in-In.offset c.in-In.operand c.deref-in-In.result.now c.deref-in-In.ensures c.in-In.negated c.in-In.values c.in-In.is) c.misplaced-in-In.ensures

pub misplaced-returns-in-IsNull : goal.misplaced-returns-in-IsNull
misplaced-returns-in-IsNull g t c = misplaced_as (map (λ e. entry_of e) c.args.entries.now) c.args.scope c.args.group_by.now c.args.of_groups _ _ _ (is_null_is c.args.expression.now c.in-IsNull.offset c.in-IsNull.operand c.deref-in-IsNull.result.now c.deref-in-IsNull.ensures c.in-IsNull.negated c.in-IsNull.is) c.misplaced-in-IsNull.ensures

pub misplaced-returns-in-Not : goal.misplaced-returns-in-Not
misplaced-returns-in-Not g t c = misplaced_as (map (λ e. entry_of e) c.args.entries.now) c.args.scope c.args.group_by.now c.args.of_groups _ _ _ (not_is c.args.expression.now c.in-Not.offset c.in-Not.operand c.deref-in-Not.result.now c.deref-in-Not.ensures c.in-Not.is) c.misplaced-in-Not.ensures

pub misplaced-returns-in-And : goal.misplaced-returns-in-And
misplaced-returns-in-And g t c = misplaced_as (map (λ e. entry_of e) c.args.entries.now) c.args.scope c.args.group_by.now c.args.of_groups _ _ _ (and_is c.args.expression.now c.in-And.offset c.in-And.members c.deref-in-And.result.now c.deref-in-And.ensures.value c.in-And.is) c.misplaced_members.ensures

pub misplaced-returns-in-Or : goal.misplaced-returns-in-Or
misplaced-returns-in-Or g t c = misplaced_as (map (λ e. entry_of e) c.args.entries.now) c.args.scope c.args.group_by.now c.args.of_groups _ _ _ (or_is c.args.expression.now c.in-Or.offset c.in-Or.members c.deref-in-Or.result.now c.deref-in-Or.ensures.value c.in-Or.is) c.misplaced_members-in-Or.ensures

pub misplaced-returns-in-Cast : goal.misplaced-returns-in-Cast
misplaced-returns-in-Cast g t c = misplaced_as (map (λ e. entry_of e) c.args.entries.now) c.args.scope c.args.group_by.now c.args.of_groups _ _ _ (cast_is c.args.expression.now c.in-Cast.offset c.in-Cast.operand c.deref-in-Cast.result.now c.deref-in-Cast.ensures c.in-Cast.to c.in-Cast.is) c.misplaced-in-Cast.ensures

pub misplaced-returns-in-Some : goal.misplaced-returns-in-Some
misplaced-returns-in-Some g t c = misplaced_as (map (λ e. entry_of e) c.args.entries.now) c.args.scope c.args.group_by.now c.args.of_groups _ _ _ (case_other c.args.expression.now c.in-Case.offset c.in-Case.arms c.deref-in-Case.result.now c.deref-in-Case.ensures.value c.in-Case.otherwise c.in-Case.is c.in-Some.value c.in-Some.is c.deref-in-Some.result.now c.deref-in-Some.ensures) (least_is _ _ _ _ _ c.least_of-in-Some.ensures c.misplaced_arms-arms.ensures c.misplaced-in-Some.ensures)

pub misplaced-returns-in-None : goal.misplaced-returns-in-None
misplaced-returns-in-None g t c = misplaced_as (map (λ e. entry_of e) c.args.entries.now) c.args.scope c.args.group_by.now c.args.of_groups _ _ _ (case_none c.args.expression.now c.in-Case.offset c.in-Case.arms c.deref-in-Case.result.now c.deref-in-Case.ensures.value c.in-Case.otherwise c.in-Case.is c.in-None.is) (least_is _ _ _ _ _ c.least_of-in-None.ensures c.misplaced_arms-arms.ensures refl)

pub misplaced-returns-in-CountStar : goal.misplaced-returns-in-CountStar
misplaced-returns-in-CountStar g t c = misplaced_as (map (λ e. entry_of e) c.args.entries.now) c.args.scope c.args.group_by.now c.args.of_groups _ _ _ (ap expr_of c.in-CountStar.is) c.misplaced_call.ensures

pub misplaced-returns-in-Call : goal.misplaced-returns-in-Call
misplaced-returns-in-Call g t c = misplaced_as (map (λ e. entry_of e) c.args.entries.now) c.args.scope c.args.group_by.now c.args.of_groups _ _ _ (call_is c.args.expression.now c.in-Call.offset c.in-Call.argument c.deref-in-Call.result.now c.deref-in-Call.ensures c.in-Call.aggregate c.in-Call.is) (c.misplaced_call-in-Call.ensures ∙ ap (misplaced_call c.args.of_groups c.in-Call.offset) c.misplaced-inner.ensures)

-- ---- the walks over members and arms

pub misplaced_members-loop-member-preserved : goal.misplaced_members-loop-member-preserved
misplaced_members-loop-member-preserved g t c = record {
  rest = misplaced_step (map (λ e. entry_of e) c.args.entries.now) c.args.scope c.args.group_by.now c.args.of_groups c.args.members.now c.loop-member.member-index c.member-item.result c.loop-member-test.true c.member-item.is c.loop-member.known _ c.misplaced.result _ c.loop-member.invariant.rest c.misplaced.ensures c.least_of-known.ensures;
  lighter = exprs_still c.args.members.now c.loop-member.member-index c.member-item.result c.loop-member-test.true c.member-item.is c.loop-member.invariant.lighter;
}

pub misplaced_members-returns : goal.misplaced_members-returns
misplaced_members-returns g t c = misplaced_over (map (λ e. entry_of e) c.args.entries.now) c.args.scope c.args.group_by.now c.args.of_groups c.args.members.now c.loop-member.member-index c.loop-member.known _ c.loop-member.invariant.rest (omega (arith, c.loop-member-test.false))

pub misplaced_arms-loop-arm-preserved : goal.misplaced_arms-loop-arm-preserved
misplaced_arms-loop-arm-preserved g t c = record {
  rest = misplaced_arm_step (map (λ e. entry_of e) c.args.entries.now) c.args.scope c.args.group_by.now c.args.of_groups c.args.arms.now c.loop-arm.arm-index c.arm-item.result c.loop-arm-test.true c.arm-item.is c.loop-arm.known _ c.least_of.result c.misplaced-when.result c.misplaced-result.result _ c.loop-arm.invariant.rest c.misplaced-when.ensures c.misplaced-result.ensures c.least_of.ensures c.least_of-known.ensures;
  lighter = arms_still c.args.arms.now c.loop-arm.arm-index c.arm-item.result c.loop-arm-test.true c.arm-item.is c.loop-arm.invariant.lighter;
}

pub misplaced_arms-returns : goal.misplaced_arms-returns
misplaced_arms-returns g t c = misplaced_arms_over (map (λ e. entry_of e) c.args.entries.now) c.args.scope c.args.group_by.now c.args.of_groups c.args.arms.now c.loop-arm.arm-index c.loop-arm.known _ c.loop-arm.invariant.rest (omega (arith, c.loop-arm-test.false))

pub misplaced_members-offset_bounds-members-member-index : goal.misplaced_members-offset_bounds-members-member-index
misplaced_members-offset_bounds-members-member-index g t c = c.loop-member.auto.member-index-end

pub misplaced_members-bounds-members-member-index : goal.misplaced_members-bounds-members-member-index
misplaced_members-bounds-members-member-index g t c = c.loop-member-test.true

pub misplaced_members-loop-member-smaller : goal.misplaced_members-loop-member-smaller
misplaced_members-loop-member-smaller g t c = falls (length c.args.members.now) c.loop-member.member-index c.loop-member-test.true

pub misplaced_members-loop-member-init : goal.misplaced_members-loop-member-init
misplaced_members-loop-member-init g t c = record {
  rest = refl;
  lighter = le_refl (all_weight (exprs c.args.members.now));
}

pub misplaced_arms-offset_bounds-arms-arm-index : goal.misplaced_arms-offset_bounds-arms-arm-index
misplaced_arms-offset_bounds-arms-arm-index g t c = c.loop-arm.auto.arm-index-end

pub misplaced_arms-bounds-arms-arm-index : goal.misplaced_arms-bounds-arms-arm-index
misplaced_arms-bounds-arms-arm-index g t c = c.loop-arm-test.true

pub misplaced_arms-loop-arm-smaller : goal.misplaced_arms-loop-arm-smaller
misplaced_arms-loop-arm-smaller g t c = falls (length c.args.arms.now) c.loop-arm.arm-index c.loop-arm-test.true

pub misplaced_arms-loop-arm-init : goal.misplaced_arms-loop-arm-init
misplaced_arms-loop-arm-init g t c = record {
  rest = refl;
  lighter = le_refl (arms_weight (arms_of c.args.arms.now));
}
