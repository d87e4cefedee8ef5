use borrow.Author.Count.{falls}
use Rattle.std.proofs.Common.{◌∙◌, ◌<◌, length, sym, ap, refl, map, subst, arith}
use Rattle.std.proofs.Math.Bool.{and-true}
use Rattle.std.proofs.Math.Nat.{le_refl}
use Rattle.row_ast.specs.View.{expr_of, exprs, arms as arms_of}
use Rattle.row_ast.specs.Weights.{weight, all_weight, arms_weight}
use Rattle.row_ast.proofs.Walks.{and_is, or_is, case_none, case_other, case_lighter, otherwise_lighter, exprs_still, arms_still, exprs_lighter, when_lighter, result_lighter}
use Rattle.row_ast.proofs.Operands.{negate_is, in_is, is_null_is, not_is, cast_is, call_is, arithmetic_is, comparison_is, between_is}
use Rattle.memory.proofs.Lighter.{lighter, left_lighter, right_lighter, middle_lighter, last_lighter}
use Rattle.plan_texts.specs.Reading.{is_found}
use Rattle.plan_texts.specs.View.{plan_entry_of}
use Rattle.plan_texts.proofs.ColumnWalks.{both_are, columns_as, members_step, members_over, arm_step, arms_over_all}
use Rattle.plan_texts.proofs.named_columns.+found.Goals as goal

-- ---- each call is on less

pub columns_found-columns_found-requires : goal.columns_found-columns_found-requires
columns_found-columns_found-requires g t c κs within = (lighter (weight (expr_of c.deref.result.now)) _ t c.decreases (ap weight (negate_is c.args.expression.now c.in-Negate.offset c.in-Negate.operand c.deref.result.now c.deref.ensures c.in-Negate.is)), within)

pub columns_found-columns_found-left-requires : goal.columns_found-columns_found-left-requires
columns_found-columns_found-left-requires g t c κs within = (left_lighter (weight (expr_of c.deref-in-Arithmetic.result.now)) _ t c.decreases _ (ap weight (arithmetic_is c.args.expression.now c.in-Arithmetic.offset c.in-Arithmetic.left c.in-Arithmetic.right c.deref-in-Arithmetic.result.now c.deref-in-Arithmetic.ensures _ refl c.in-Arithmetic.operator c.in-Arithmetic.is)), within)

pub columns_found-columns_found-requires-in-Arithmetic : goal.columns_found-columns_found-requires-in-Arithmetic
columns_found-columns_found-requires-in-Arithmetic g t c κs within = (right_lighter (weight (expr_of c.deref-in-Arithmetic-2.result.now)) _ t c.decreases _ (ap weight (arithmetic_is c.args.expression.now c.in-Arithmetic.offset c.in-Arithmetic.left c.in-Arithmetic.right c.deref-in-Arithmetic.result.now c.deref-in-Arithmetic.ensures c.deref-in-Arithmetic-2.result.now c.deref-in-Arithmetic-2.ensures c.in-Arithmetic.operator c.in-Arithmetic.is)), within)

pub columns_found-columns_found-left-requires-in-Comparison : goal.columns_found-columns_found-left-requires-in-Comparison
columns_found-columns_found-left-requires-in-Comparison g t c κs within = (left_lighter (weight (expr_of c.deref-in-Comparison.result.now)) _ t c.decreases _ (ap weight (comparison_is c.args.expression.now c.in-Comparison.offset c.in-Comparison.left c.in-Comparison.right c.deref-in-Comparison.result.now c.deref-in-Comparison.ensures _ refl c.in-Comparison.operator c.in-Comparison.is)), within)

pub columns_found-columns_found-requires-in-Comparison : goal.columns_found-columns_found-requires-in-Comparison
columns_found-columns_found-requires-in-Comparison g t c κs within = (right_lighter (weight (expr_of c.deref-in-Comparison-2.result.now)) _ t c.decreases _ (ap weight (comparison_is c.args.expression.now c.in-Comparison.offset c.in-Comparison.left c.in-Comparison.right c.deref-in-Comparison.result.now c.deref-in-Comparison.ensures c.deref-in-Comparison-2.result.now c.deref-in-Comparison-2.ensures c.in-Comparison.operator c.in-Comparison.is)), within)

pub columns_found-columns_found-operand-requires : goal.columns_found-columns_found-operand-requires
columns_found-columns_found-operand-requires g t c κs within = (left_lighter (weight (expr_of c.deref-in-Between.result.now)) _ t c.decreases _ (ap weight (between_is c.args.expression.now c.in-Between.offset c.in-Between.operand c.in-Between.low c.deref-in-Between.result.now c.deref-in-Between.ensures _ refl c.in-Between.high _ refl c.in-Between.negated c.in-Between.is)), within)

pub columns_found-columns_found-low-requires : goal.columns_found-columns_found-low-requires
columns_found-columns_found-low-requires g t c κs within = (middle_lighter (weight (expr_of c.deref-in-Between-2.result.now)) _ t c.decreases _ _ (ap weight (between_is c.args.expression.now c.in-Between.offset c.in-Between.operand c.in-Between.low c.deref-in-Between.result.now c.deref-in-Between.ensures c.deref-in-Between-2.result.now c.deref-in-Between-2.ensures c.in-Between.high _ refl c.in-Between.negated c.in-Between.is)), within)

pub columns_found-columns_found-high-requires : goal.columns_found-columns_found-high-requires
columns_found-columns_found-high-requires g t c κs within = (last_lighter (weight (expr_of c.deref-in-Between-3.result.now)) _ t c.decreases _ _ (ap weight (between_is c.args.expression.now c.in-Between.offset c.in-Between.operand c.in-Between.low c.deref-in-Between.result.now c.deref-in-Between.ensures c.deref-in-Between-2.result.now c.deref-in-Between-2.ensures c.in-Between.high c.deref-in-Between-3.result.now c.deref-in-Between-3.ensures c.in-Between.negated c.in-Between.is)), within)

pub columns_found-columns_found-requires-in-In : goal.columns_found-columns_found-requires-in-In
columns_found-columns_found-requires-in-In g t c κs within = (lighter (weight (expr_of c.deref-in-In.result.now)) _ t c.decreases (ap weight (in_is c.args.expression.now c.in-In.offset c.in-In.operand c.deref-in-In.result.now c.deref-in-In.ensures c.in-In.negated c.in-In.values c.in-In.is)), within)

pub columns_found-columns_found-requires-in-IsNull : goal.columns_found-columns_found-requires-in-IsNull
columns_found-columns_found-requires-in-IsNull g t c κs within = (lighter (weight (expr_of c.deref-in-IsNull.result.now)) _ t c.decreases (ap weight (is_null_is c.args.expression.now c.in-IsNull.offset c.in-IsNull.operand c.deref-in-IsNull.result.now c.deref-in-IsNull.ensures c.in-IsNull.negated c.in-IsNull.is)), within)

pub columns_found-columns_found-requires-in-Not : goal.columns_found-columns_found-requires-in-Not
columns_found-columns_found-requires-in-Not g t c κs within = (lighter (weight (expr_of c.deref-in-Not.result.now)) _ t c.decreases (ap weight (not_is c.args.expression.now c.in-Not.offset c.in-Not.operand c.deref-in-Not.result.now c.deref-in-Not.ensures c.in-Not.is)), within)

pub columns_found-columns_found-requires-in-Cast : goal.columns_found-columns_found-requires-in-Cast
columns_found-columns_found-requires-in-Cast g t c κs within = (lighter (weight (expr_of c.deref-in-Cast.result.now)) _ t c.decreases (ap weight (cast_is c.args.expression.now c.in-Cast.offset c.in-Cast.operand c.deref-in-Cast.result.now c.deref-in-Cast.ensures c.in-Cast.to c.in-Cast.is)), within)

pub columns_found-columns_found-requires-in-Call : goal.columns_found-columns_found-requires-in-Call
columns_found-columns_found-requires-in-Call g t c κs within = (lighter (weight (expr_of c.deref-in-Call.result.now)) _ t c.decreases (ap weight (call_is c.args.expression.now c.in-Call.offset c.in-Call.argument c.deref-in-Call.result.now c.deref-in-Call.ensures c.in-Call.aggregate c.in-Call.is)), within)

pub columns_found-members_found-requires : goal.columns_found-members_found-requires
columns_found-members_found-requires g t c κs within = (lighter (all_weight (exprs c.deref-in-And.result.now)) _ t c.decreases (ap weight (and_is c.args.expression.now c.in-And.offset c.in-And.members c.deref-in-And.result.now c.deref-in-And.ensures.value c.in-And.is)), within)

pub columns_found-members_found-requires-in-Or : goal.columns_found-members_found-requires-in-Or
columns_found-members_found-requires-in-Or g t c κs within = (lighter (all_weight (exprs c.deref-in-Or.result.now)) _ t c.decreases (ap weight (or_is c.args.expression.now c.in-Or.offset c.in-Or.members c.deref-in-Or.result.now c.deref-in-Or.ensures.value c.in-Or.is)), within)

pub columns_found-arms_found-arms-requires : goal.columns_found-arms_found-arms-requires
columns_found-arms_found-arms-requires g t c κs within = (subst (λ n. arms_weight (arms_of c.deref-in-Case.result.now) < n) c.decreases (case_lighter c.args.expression.now c.in-Case.offset c.in-Case.arms c.deref-in-Case.result.now c.deref-in-Case.ensures.value c.in-Case.otherwise c.in-Case.is), within)

pub columns_found-columns_found-requires-in-Some : goal.columns_found-columns_found-requires-in-Some
columns_found-columns_found-requires-in-Some g t c κs within = (subst (λ n. weight (expr_of c.deref-in-Some.result.now) < n) c.decreases (otherwise_lighter c.args.expression.now c.in-Case.offset c.in-Case.arms c.deref-in-Case.result.now c.deref-in-Case.ensures.value c.in-Case.otherwise c.in-Case.is c.in-Some.value c.in-Some.is c.deref-in-Some.result.now c.deref-in-Some.ensures), within)

pub members_found-columns_found-requires : goal.members_found-columns_found-requires
members_found-columns_found-requires g t c κs within = (subst (λ n. weight (expr_of c.member-item.result) < n) c.decreases (exprs_lighter c.args.members.now c.loop-member.member-index c.member-item.result c.loop-member-test.true c.member-item.is c.loop-member.invariant.lighter), within)

pub arms_found-columns_found-when-requires : goal.arms_found-columns_found-when-requires
arms_found-columns_found-when-requires g t c κs within = (subst (λ n. weight (expr_of c.arm-item.result.when) < n) c.decreases (when_lighter c.args.arms.now c.loop-arm.arm-index c.arm-item.result c.loop-arm-test.true c.arm-item.is c.loop-arm.invariant.lighter), within)

pub arms_found-columns_found-result-requires : goal.arms_found-columns_found-result-requires
arms_found-columns_found-result-requires g t c κs within = (subst (λ n. weight (expr_of c.arm-item.result.result) < n) c.decreases (result_lighter c.args.arms.now c.loop-arm.arm-index c.arm-item.result c.loop-arm-test.true c.arm-item.is c.loop-arm.invariant.lighter), within)

-- ---- the result of each node

pub columns_found-returns-in-Column : goal.columns_found-returns-in-Column
columns_found-returns-in-Column g t c = columns_as (is_found (map plan_entry_of c.args.entries.now)) _ _ _ (ap expr_of c.in-Column.is) c.is_found.ensures

pub columns_found-returns-in-Negate : goal.columns_found-returns-in-Negate
columns_found-returns-in-Negate g t c = columns_as (is_found (map plan_entry_of c.args.entries.now)) _ _ _ (negate_is c.args.expression.now c.in-Negate.offset c.in-Negate.operand c.deref.result.now c.deref.ensures c.in-Negate.is) c.columns_found.ensures

pub columns_found-returns-in-Arithmetic : goal.columns_found-returns-in-Arithmetic
columns_found-returns-in-Arithmetic g t c = columns_as (is_found (map plan_entry_of c.args.entries.now)) _ _ _ (arithmetic_is c.args.expression.now c.in-Arithmetic.offset c.in-Arithmetic.left c.in-Arithmetic.right c.deref-in-Arithmetic.result.now c.deref-in-Arithmetic.ensures c.deref-in-Arithmetic-2.result.now c.deref-in-Arithmetic-2.ensures c.in-Arithmetic.operator c.in-Arithmetic.is) (both_are _ _ _ _ _ c.both.ensures c.columns_found-left.ensures c.columns_found-in-Arithmetic.ensures)

pub columns_found-returns-in-Comparison : goal.columns_found-returns-in-Comparison
columns_found-returns-in-Comparison g t c = columns_as (is_found (map plan_entry_of c.args.entries.now)) _ _ _ (comparison_is c.args.expression.now c.in-Comparison.offset c.in-Comparison.left c.in-Comparison.right c.deref-in-Comparison.result.now c.deref-in-Comparison.ensures c.deref-in-Comparison-2.result.now c.deref-in-Comparison-2.ensures c.in-Comparison.operator c.in-Comparison.is) (both_are _ _ _ _ _ c.both-in-Comparison.ensures c.columns_found-left-in-Comparison.ensures c.columns_found-in-Comparison.ensures)

pub columns_found-returns-in-Between : goal.columns_found-returns-in-Between
columns_found-returns-in-Between g t c = columns_as (is_found (map plan_entry_of c.args.entries.now)) _ _ _ (between_is c.args.expression.now c.in-Between.offset c.in-Between.operand c.in-Between.low c.deref-in-Between.result.now c.deref-in-Between.ensures c.deref-in-Between-2.result.now c.deref-in-Between-2.ensures c.in-Between.high c.deref-in-Between-3.result.now c.deref-in-Between-3.ensures c.in-Between.negated c.in-Between.is) (both_are _ _ _ _ _ c.both-in-Between-2.ensures c.columns_found-operand.ensures (both_are _ _ _ _ _ c.both-in-Between.ensures c.columns_found-low.ensures c.columns_found-high.ensures))

pub columns_found-returns-in-In : goal.columns_found-returns-in-In
columns_found-returns-in-In g t c = columns_as (is_found (map plan_entry_of c.args.entries.now)) _ _ _ (in_is c.args.expression.now c.in-In.offset c.in-In.operand c.deref-in-In.result.now c.deref-in-In.ensures c.in-In.negated c.in-In.values c.in-In.is) c.columns_found-in-In.ensures

pub columns_found-returns-in-IsNull : goal.columns_found-returns-in-IsNull
columns_found-returns-in-IsNull g t c = columns_as (is_found (map plan_entry_of c.args.entries.now)) _ _ _ (is_null_is c.args.expression.now c.in-IsNull.offset c.in-IsNull.operand c.deref-in-IsNull.result.now c.deref-in-IsNull.ensures c.in-IsNull.negated c.in-IsNull.is) c.columns_found-in-IsNull.ensures

pub columns_found-returns-in-Not : goal.columns_found-returns-in-Not
columns_found-returns-in-Not g t c = columns_as (is_found (map plan_entry_of c.args.entries.now)) _ _ _ (not_is c.args.expression.now c.in-Not.offset c.in-Not.operand c.deref-in-Not.result.now c.deref-in-Not.ensures c.in-Not.is) c.columns_found-in-Not.ensures

pub columns_found-returns-in-And : goal.columns_found-returns-in-And
columns_found-returns-in-And g t c = columns_as (is_found (map plan_entry_of c.args.entries.now)) _ _ _ (and_is c.args.expression.now c.in-And.offset c.in-And.members c.deref-in-And.result.now c.deref-in-And.ensures.value c.in-And.is) c.members_found.ensures

pub columns_found-returns-in-Or : goal.columns_found-returns-in-Or
columns_found-returns-in-Or g t c = columns_as (is_found (map plan_entry_of c.args.entries.now)) _ _ _ (or_is c.args.expression.now c.in-Or.offset c.in-Or.members c.deref-in-Or.result.now c.deref-in-Or.ensures.value c.in-Or.is) c.members_found-in-Or.ensures

pub columns_found-returns-in-Cast : goal.columns_found-returns-in-Cast
columns_found-returns-in-Cast g t c = columns_as (is_found (map plan_entry_of c.args.entries.now)) _ _ _ (cast_is c.args.expression.now c.in-Cast.offset c.in-Cast.operand c.deref-in-Cast.result.now c.deref-in-Cast.ensures c.in-Cast.to c.in-Cast.is) c.columns_found-in-Cast.ensures

pub columns_found-returns-in-Some : goal.columns_found-returns-in-Some
columns_found-returns-in-Some g t c = columns_as (is_found (map plan_entry_of c.args.entries.now)) _ _ _ (case_other c.args.expression.now c.in-Case.offset c.in-Case.arms c.deref-in-Case.result.now c.deref-in-Case.ensures.value c.in-Case.otherwise c.in-Case.is c.in-Some.value c.in-Some.is c.deref-in-Some.result.now c.deref-in-Some.ensures) (both_are _ _ _ _ _ c.both-in-Some.ensures c.arms_found-arms.ensures c.columns_found-in-Some.ensures)

pub columns_found-returns-in-None : goal.columns_found-returns-in-None
columns_found-returns-in-None g t c = columns_as (is_found (map plan_entry_of c.args.entries.now)) _ _ _ (case_none c.args.expression.now c.in-Case.offset c.in-Case.arms c.deref-in-Case.result.now c.deref-in-Case.ensures.value c.in-Case.otherwise c.in-Case.is c.in-None.is) (c.arms_found-arms.ensures ∙ sym (and-true _))

pub columns_found-returns-in-Call : goal.columns_found-returns-in-Call
columns_found-returns-in-Call g t c = columns_as (is_found (map plan_entry_of c.args.entries.now)) _ _ _ (call_is c.args.expression.now c.in-Call.offset c.in-Call.argument c.deref-in-Call.result.now c.deref-in-Call.ensures c.in-Call.aggregate c.in-Call.is) c.columns_found-in-Call.ensures

-- ---- the walks over members and arms

pub members_found-loop-member-preserved : goal.members_found-loop-member-preserved
members_found-loop-member-preserved g t c = record {
  rest = members_step (is_found (map plan_entry_of c.args.entries.now)) c.args.members.now c.loop-member.member-index c.member-item.result c.loop-member-test.true c.member-item.is c.loop-member.known _ c.columns_found.result _ c.loop-member.invariant.rest c.columns_found.ensures c.both-known.ensures;
  lighter = exprs_still c.args.members.now c.loop-member.member-index c.member-item.result c.loop-member-test.true c.member-item.is c.loop-member.invariant.lighter;
}

pub members_found-returns : goal.members_found-returns
members_found-returns g t c = members_over (is_found (map plan_entry_of c.args.entries.now)) c.args.members.now c.loop-member.member-index c.loop-member.known _ c.loop-member.invariant.rest (omega (arith, c.loop-member-test.false))

pub arms_found-loop-arm-preserved : goal.arms_found-loop-arm-preserved
arms_found-loop-arm-preserved g t c = record {
  rest = arm_step (is_found (map plan_entry_of c.args.entries.now)) c.args.arms.now c.loop-arm.arm-index c.arm-item.result c.loop-arm-test.true c.arm-item.is c.loop-arm.known _ c.both.result c.columns_found-when.result c.columns_found-result.result _ c.loop-arm.invariant.rest c.columns_found-when.ensures c.columns_found-result.ensures c.both.ensures c.both-known.ensures;
  lighter = arms_still c.args.arms.now c.loop-arm.arm-index c.arm-item.result c.loop-arm-test.true c.arm-item.is c.loop-arm.invariant.lighter;
}

pub arms_found-returns : goal.arms_found-returns
arms_found-returns g t c = arms_over_all (is_found (map plan_entry_of c.args.entries.now)) c.args.arms.now c.loop-arm.arm-index c.loop-arm.known _ c.loop-arm.invariant.rest (omega (arith, c.loop-arm-test.false))

pub members_found-offset_bounds-members-member-index : goal.members_found-offset_bounds-members-member-index
members_found-offset_bounds-members-member-index g t c = c.loop-member.auto.member-index-end

pub members_found-bounds-members-member-index : goal.members_found-bounds-members-member-index
members_found-bounds-members-member-index g t c = c.loop-member-test.true

pub members_found-loop-member-smaller : goal.members_found-loop-member-smaller
members_found-loop-member-smaller g t c = falls (length c.args.members.now) c.loop-member.member-index c.loop-member-test.true

pub members_found-loop-member-init : goal.members_found-loop-member-init
members_found-loop-member-init g t c = record {
  rest = refl;
  lighter = le_refl (all_weight (exprs c.args.members.now));
}

pub arms_found-offset_bounds-arms-arm-index : goal.arms_found-offset_bounds-arms-arm-index
arms_found-offset_bounds-arms-arm-index g t c = c.loop-arm.auto.arm-index-end

pub arms_found-bounds-arms-arm-index : goal.arms_found-bounds-arms-arm-index
arms_found-bounds-arms-arm-index g t c = c.loop-arm-test.true

pub arms_found-loop-arm-smaller : goal.arms_found-loop-arm-smaller
arms_found-loop-arm-smaller g t c = falls (length c.args.arms.now) c.loop-arm.arm-index c.loop-arm-test.true

pub arms_found-loop-arm-init : goal.arms_found-loop-arm-init
arms_found-loop-arm-init g t c = record {
  rest = refl;
  lighter = le_refl (arms_weight (arms_of c.args.arms.now));
}
