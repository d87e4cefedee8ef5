use borrow.Author.Count.{falls}
use Rattle.std.proofs.Common.{◌∙◌, ◌<◌, length, refl, sym, ap, subst, Ok, None, arith, map}
use Rattle.value.specs.Datum.{datum}
use Rattle.row_ast.specs.View.{expr_of, exprs, arms as arms_of}
use Rattle.scope.specs.View.{entry_of}
use Rattle.typing.specs.Typing.{negation_type, arithmetic_type, comparison_type, between_type, membership_type, null_check_type, not_type, cast_type, call_type, conditions_type, case_type, found_type, typed, typed_arms, typed_members}
use Rattle.row_ast.specs.Weights.{weight, all_weight, arms_weight}
use Rattle.row_ast.proofs.Walks.{and_is, or_is, case_none, case_some, case_lighter, exprs_lighter, exprs_still, when_lighter, result_lighter, arms_still}
use Rattle.row_ast.proofs.Operands.{negate_is, in_is, is_null_is, not_is, cast_is, call_is, arithmetic_is, comparison_is, between_is}
use Rattle.memory.proofs.Lighter.{lighter, left_lighter, right_lighter, middle_lighter, last_lighter}
use Rattle.std.proofs.Math.Nat.{le_refl}
use Rattle.typing.proofs.Walks.{arms_whole, member_step, member_over, members_whole, arm_step, arm_over}
use Rattle.typing.proofs.types.+typed.Goals as goal

pub typed_members-loop-member-preserved : goal.typed_members-loop-member-preserved
typed_members-loop-member-preserved g t c = record {
  rest = member_step (map (λ e. entry_of e) c.args.entries.now) c.args.scope c.args.members.now c.loop-member.member-index c.member-item.result c.loop-member-test.true c.member-item.is c.loop-member.known _ c.is_condition.result c.typed.result _ c.loop-member.invariant.rest c.typed.ensures c.is_condition.ensures c.both_hold-known.ensures;
  lighter = exprs_still c.args.members.now c.loop-member.member-index c.member-item.result c.loop-member-test.true c.member-item.is c.loop-member.invariant.lighter;
}

pub typed_members-returns : goal.typed_members-returns
typed_members-returns g t c = member_over (map (λ e. entry_of e) c.args.entries.now) c.args.scope c.args.members.now c.loop-member.member-index c.loop-member.known _ c.loop-member.invariant.rest (omega (arith, c.loop-member-test.false))

pub typed_arms-loop-arm-preserved : goal.typed_arms-loop-arm-preserved
typed_arms-loop-arm-preserved g t c = record {
  rest = arm_step (map (λ e. entry_of e) c.args.entries.now) c.args.scope c.args.arms.now c.loop-arm.arm-index c.arm-item.result c.loop-arm-test.true c.arm-item.is c.loop-arm.known _ c.arm_type.result c.typed-when.result c.typed.result _ c.loop-arm.invariant.rest c.typed-when.ensures c.typed.ensures c.arm_type.ensures c.both_arms-known.ensures;
  lighter = arms_still c.args.arms.now c.loop-arm.arm-index c.arm-item.result c.loop-arm-test.true c.arm-item.is c.loop-arm.invariant.lighter;
}

pub typed_arms-returns : goal.typed_arms-returns
typed_arms-returns g t c = arm_over (map (λ e. entry_of e) c.args.entries.now) c.args.scope c.args.arms.now c.loop-arm.arm-index c.loop-arm.known _ c.loop-arm.invariant.rest (omega (arith, c.loop-arm-test.false))

pub typed-typed_members-requires : goal.typed-typed_members-requires
typed-typed_members-requires g t c κs within = (lighter (all_weight (exprs c.deref-in-And.result.now)) _ t c.decreases (ap weight (and_is c.args.expression.now c.in-And.offset c.in-And.members c.deref-in-And.result.now c.deref-in-And.ensures.value c.in-And.is)), within)

pub typed-typed_members-requires-in-Or : goal.typed-typed_members-requires-in-Or
typed-typed_members-requires-in-Or g t c κs within = (lighter (all_weight (exprs c.deref-in-Or.result.now)) _ t c.decreases (ap weight (or_is c.args.expression.now c.in-Or.offset c.in-Or.members c.deref-in-Or.result.now c.deref-in-Or.ensures.value c.in-Or.is)), within)

pub typed-typed_arms-known-requires : goal.typed-typed_arms-known-requires
typed-typed_arms-known-requires g t c κs within = (subst (λ n. arms_weight (arms_of c.deref-in-Case.result.now) < n) c.decreases (case_lighter c.args.expression.now c.in-Case.offset c.in-Case.arms c.deref-in-Case.result.now c.deref-in-Case.ensures.value c.in-Case.otherwise c.in-Case.is), within)

pub typed-returns-in-And : goal.typed-returns-in-And
typed-returns-in-And g t c =
    rw (and_is c.args.expression.now c.in-And.offset c.in-And.members c.deref-in-And.result.now c.deref-in-And.ensures.value c.in-And.is) (c.conditions_type.ensures ∙ ap (conditions_type c.in-And.offset) c.typed_members.ensures)

pub typed-returns-in-Or : goal.typed-returns-in-Or
typed-returns-in-Or g t c =
    rw (or_is c.args.expression.now c.in-Or.offset c.in-Or.members c.deref-in-Or.result.now c.deref-in-Or.ensures.value c.in-Or.is) (c.conditions_type-in-Or.ensures ∙ ap (conditions_type c.in-Or.offset) c.typed_members-in-Or.ensures)

pub typed-returns-in-Some : goal.typed-returns-in-Some
typed-returns-in-Some g t c =
    rw (case_some c.args.expression.now c.in-Case.offset c.in-Case.arms c.deref-in-Case.result.now c.deref-in-Case.ensures.value c.in-Case.otherwise c.in-Case.is c.in-Some.value c.in-Some.is)
    (c.case_type.ensures ∙ ap (λ r. case_type c.in-Case.offset r c.typed-in-Some.result) c.typed_arms-known.ensures ∙ ap (case_type c.in-Case.offset (typed_arms (map (λ e. entry_of e) c.args.entries.now) c.args.scope (arms_of c.deref-in-Case.result.now))) c.typed-in-Some.ensures
    ∙ ap (λ e. case_type c.in-Case.offset (typed_arms (map (λ e. entry_of e) c.args.entries.now) c.args.scope (arms_of c.deref-in-Case.result.now)) (typed (map (λ e. entry_of e) c.args.entries.now) c.args.scope (expr_of e))) c.deref-in-Some.ensures)

pub typed-returns-in-None : goal.typed-returns-in-None
typed-returns-in-None g t c =
    rw (case_none c.args.expression.now c.in-Case.offset c.in-Case.arms c.deref-in-Case.result.now c.deref-in-Case.ensures.value c.in-Case.otherwise c.in-Case.is c.in-None.is)
    (c.case_type-in-None.ensures ∙ ap (λ r. case_type c.in-Case.offset r (Ok None)) c.typed_arms-known.ensures)

-- ---- operands are lighter

pub typed-typed-requires : goal.typed-typed-requires
typed-typed-requires g t c κs within = (lighter (weight (expr_of c.deref.result.now)) _ t c.decreases (ap weight (negate_is c.args.expression.now c.in-Negate.offset c.in-Negate.operand c.deref.result.now c.deref.ensures c.in-Negate.is)), within)

pub typed-typed-of-requires : goal.typed-typed-of-requires
typed-typed-of-requires g t c κs within = (lighter (weight (expr_of c.deref-in-In.result.now)) _ t c.decreases (ap weight (in_is c.args.expression.now c.in-In.offset c.in-In.operand c.deref-in-In.result.now c.deref-in-In.ensures c.in-In.negated c.in-In.values c.in-In.is)), within)

pub typed-typed-requires-in-IsNull : goal.typed-typed-requires-in-IsNull
typed-typed-requires-in-IsNull g t c κs within = (lighter (weight (expr_of c.deref-in-IsNull.result.now)) _ t c.decreases (ap weight (is_null_is c.args.expression.now c.in-IsNull.offset c.in-IsNull.operand c.deref-in-IsNull.result.now c.deref-in-IsNull.ensures c.in-IsNull.negated c.in-IsNull.is)), within)

pub typed-typed-requires-in-Not : goal.typed-typed-requires-in-Not
typed-typed-requires-in-Not g t c κs within = (lighter (weight (expr_of c.deref-in-Not.result.now)) _ t c.decreases (ap weight (not_is c.args.expression.now c.in-Not.offset c.in-Not.operand c.deref-in-Not.result.now c.deref-in-Not.ensures c.in-Not.is)), within)

pub typed-typed-requires-in-Cast : goal.typed-typed-requires-in-Cast
typed-typed-requires-in-Cast g t c κs within = (lighter (weight (expr_of c.deref-in-Cast.result.now)) _ t c.decreases (ap weight (cast_is c.args.expression.now c.in-Cast.offset c.in-Cast.operand c.deref-in-Cast.result.now c.deref-in-Cast.ensures c.in-Cast.to c.in-Cast.is)), within)

pub typed-typed-requires-in-Call : goal.typed-typed-requires-in-Call
typed-typed-requires-in-Call g t c κs within = (lighter (weight (expr_of c.deref-in-Call.result.now)) _ t c.decreases (ap weight (call_is c.args.expression.now c.in-Call.offset c.in-Call.argument c.deref-in-Call.result.now c.deref-in-Call.ensures c.in-Call.aggregate c.in-Call.is)), within)

pub typed-typed-a-requires : goal.typed-typed-a-requires
typed-typed-a-requires g t c κs within = (left_lighter (weight (expr_of c.deref-in-Arithmetic.result.now)) _ t c.decreases _ (ap weight (arithmetic_is c.args.expression.now c.in-Arithmetic.offset c.in-Arithmetic.left c.in-Arithmetic.right c.deref-in-Arithmetic.result.now c.deref-in-Arithmetic.ensures c.in-Arithmetic.right.value refl c.in-Arithmetic.operator c.in-Arithmetic.is)), within)

pub typed-typed-requires-in-Arithmetic : goal.typed-typed-requires-in-Arithmetic
typed-typed-requires-in-Arithmetic g t c κs within = (right_lighter (weight (expr_of c.deref-in-Arithmetic-2.result.now)) _ t c.decreases _ (ap weight (arithmetic_is c.args.expression.now c.in-Arithmetic.offset c.in-Arithmetic.left c.in-Arithmetic.right c.deref-in-Arithmetic.result.now c.deref-in-Arithmetic.ensures c.deref-in-Arithmetic-2.result.now c.deref-in-Arithmetic-2.ensures c.in-Arithmetic.operator c.in-Arithmetic.is)), within)

pub typed-typed-a-requires-in-Comparison : goal.typed-typed-a-requires-in-Comparison
typed-typed-a-requires-in-Comparison g t c κs within = (left_lighter (weight (expr_of c.deref-in-Comparison.result.now)) _ t c.decreases _ (ap weight (comparison_is c.args.expression.now c.in-Comparison.offset c.in-Comparison.left c.in-Comparison.right c.deref-in-Comparison.result.now c.deref-in-Comparison.ensures c.in-Comparison.right.value refl c.in-Comparison.operator c.in-Comparison.is)), within)

pub typed-typed-requires-in-Comparison : goal.typed-typed-requires-in-Comparison
typed-typed-requires-in-Comparison g t c κs within = (right_lighter (weight (expr_of c.deref-in-Comparison-2.result.now)) _ t c.decreases _ (ap weight (comparison_is c.args.expression.now c.in-Comparison.offset c.in-Comparison.left c.in-Comparison.right c.deref-in-Comparison.result.now c.deref-in-Comparison.ensures c.deref-in-Comparison-2.result.now c.deref-in-Comparison-2.ensures c.in-Comparison.operator c.in-Comparison.is)), within)

pub typed-typed-operand-requires : goal.typed-typed-operand-requires
typed-typed-operand-requires g t c κs within = (left_lighter (weight (expr_of c.deref-in-Between.result.now)) _ t c.decreases _ (ap weight (between_is c.args.expression.now c.in-Between.offset c.in-Between.operand c.in-Between.low c.deref-in-Between.result.now c.deref-in-Between.ensures c.in-Between.low.value refl c.in-Between.high c.in-Between.high.value refl c.in-Between.negated c.in-Between.is)), within)

pub typed-typed-low-requires : goal.typed-typed-low-requires
typed-typed-low-requires g t c κs within = (middle_lighter (weight (expr_of c.deref-in-Between-2.result.now)) _ t c.decreases _ _ (ap weight (between_is c.args.expression.now c.in-Between.offset c.in-Between.operand c.in-Between.low c.deref-in-Between.result.now c.deref-in-Between.ensures c.deref-in-Between-2.result.now c.deref-in-Between-2.ensures c.in-Between.high c.in-Between.high.value refl c.in-Between.negated c.in-Between.is)), within)

pub typed-typed-high-requires : goal.typed-typed-high-requires
typed-typed-high-requires g t c κs within = (last_lighter (weight (expr_of c.deref-in-Between-3.result.now)) _ t c.decreases _ _ (ap weight (between_is c.args.expression.now c.in-Between.offset c.in-Between.operand c.in-Between.low c.deref-in-Between.result.now c.deref-in-Between.ensures c.deref-in-Between-2.result.now c.deref-in-Between-2.ensures c.in-Between.high c.deref-in-Between-3.result.now c.deref-in-Between-3.ensures c.in-Between.negated c.in-Between.is)), within)

-- ---- operations

pub typed-returns-in-Negate : goal.typed-returns-in-Negate
typed-returns-in-Negate g t c = rw (negate_is c.args.expression.now c.in-Negate.offset c.in-Negate.operand c.deref.result.now c.deref.ensures c.in-Negate.is) (c.negation_type.ensures ∙ ap (negation_type c.in-Negate.offset) c.typed.ensures)

pub typed-returns-in-IsNull : goal.typed-returns-in-IsNull
typed-returns-in-IsNull g t c = rw (is_null_is c.args.expression.now c.in-IsNull.offset c.in-IsNull.operand c.deref-in-IsNull.result.now c.deref-in-IsNull.ensures c.in-IsNull.negated c.in-IsNull.is) (c.null_check_type.ensures ∙ ap null_check_type c.typed-in-IsNull.ensures)

pub typed-returns-in-Not : goal.typed-returns-in-Not
typed-returns-in-Not g t c = rw (not_is c.args.expression.now c.in-Not.offset c.in-Not.operand c.deref-in-Not.result.now c.deref-in-Not.ensures c.in-Not.is) (c.not_type.ensures ∙ ap (not_type c.in-Not.offset) c.typed-in-Not.ensures)

pub typed-returns-in-Cast : goal.typed-returns-in-Cast
typed-returns-in-Cast g t c = rw (cast_is c.args.expression.now c.in-Cast.offset c.in-Cast.operand c.deref-in-Cast.result.now c.deref-in-Cast.ensures c.in-Cast.to c.in-Cast.is) (c.cast_type.ensures ∙ ap (cast_type c.in-Cast.offset c.in-Cast.to) c.typed-in-Cast.ensures)

pub typed-returns-in-Call : goal.typed-returns-in-Call
typed-returns-in-Call g t c = rw (call_is c.args.expression.now c.in-Call.offset c.in-Call.argument c.deref-in-Call.result.now c.deref-in-Call.ensures c.in-Call.aggregate c.in-Call.is) (c.call_type.ensures ∙ ap (call_type c.in-Call.offset c.in-Call.aggregate) c.typed-in-Call.ensures)

pub typed-returns-in-In : goal.typed-returns-in-In
typed-returns-in-In g t c = rw (in_is c.args.expression.now c.in-In.offset c.in-In.operand c.deref-in-In.result.now c.deref-in-In.ensures c.in-In.negated c.in-In.values c.in-In.is) (c.membership_type.ensures ∙ ap (λ t. membership_type c.in-In.offset t (map datum c.as_slice.result.now)) c.typed-of.ensures ∙ ap (λ vs. membership_type c.in-In.offset (typed (map (λ e. entry_of e) c.args.entries.now) c.args.scope (expr_of c.deref-in-In.result.now)) (map datum vs)) c.as_slice.ensures)

pub typed-returns-in-Arithmetic : goal.typed-returns-in-Arithmetic
typed-returns-in-Arithmetic g t c = rw (arithmetic_is c.args.expression.now c.in-Arithmetic.offset c.in-Arithmetic.left c.in-Arithmetic.right c.deref-in-Arithmetic.result.now c.deref-in-Arithmetic.ensures c.deref-in-Arithmetic-2.result.now c.deref-in-Arithmetic-2.ensures c.in-Arithmetic.operator c.in-Arithmetic.is) (c.arithmetic_type.ensures ∙ ap (λ t. arithmetic_type c.in-Arithmetic.offset t c.typed-in-Arithmetic.result) c.typed-a.ensures ∙ ap (arithmetic_type c.in-Arithmetic.offset (typed (map (λ e. entry_of e) c.args.entries.now) c.args.scope (expr_of c.deref-in-Arithmetic.result.now))) c.typed-in-Arithmetic.ensures)

pub typed-returns-in-Comparison : goal.typed-returns-in-Comparison
typed-returns-in-Comparison g t c = rw (comparison_is c.args.expression.now c.in-Comparison.offset c.in-Comparison.left c.in-Comparison.right c.deref-in-Comparison.result.now c.deref-in-Comparison.ensures c.deref-in-Comparison-2.result.now c.deref-in-Comparison-2.ensures c.in-Comparison.operator c.in-Comparison.is) (c.comparison_type.ensures ∙ ap (λ t. comparison_type c.in-Comparison.offset t c.typed-in-Comparison.result) c.typed-a-in-Comparison.ensures ∙ ap (comparison_type c.in-Comparison.offset (typed (map (λ e. entry_of e) c.args.entries.now) c.args.scope (expr_of c.deref-in-Comparison.result.now))) c.typed-in-Comparison.ensures)

pub typed-returns-in-Between : goal.typed-returns-in-Between
typed-returns-in-Between g t c = rw (between_is c.args.expression.now c.in-Between.offset c.in-Between.operand c.in-Between.low c.deref-in-Between.result.now c.deref-in-Between.ensures c.deref-in-Between-2.result.now c.deref-in-Between-2.ensures c.in-Between.high c.deref-in-Between-3.result.now c.deref-in-Between-3.ensures c.in-Between.negated c.in-Between.is) (c.between_type.ensures ∙ ap (λ t. between_type c.in-Between.offset t c.typed-low.result c.typed-high.result) c.typed-operand.ensures ∙ ap (λ t. between_type c.in-Between.offset (typed (map (λ e. entry_of e) c.args.entries.now) c.args.scope (expr_of c.deref-in-Between.result.now)) t c.typed-high.result) c.typed-low.ensures ∙ ap (between_type c.in-Between.offset (typed (map (λ e. entry_of e) c.args.entries.now) c.args.scope (expr_of c.deref-in-Between.result.now)) (typed (map (λ e. entry_of e) c.args.entries.now) c.args.scope (expr_of c.deref-in-Between-2.result.now))) c.typed-high.ensures)

pub typed-returns-in-Column : goal.typed-returns-in-Column
typed-returns-in-Column g t c = ap Ok (c.found_type.ensures ∙ ap (found_type (map (λ e. entry_of e) c.args.entries.now)) c.find_column.ensures) ∙ sym (ap (λ e. typed (map (λ e. entry_of e) c.args.entries.now) c.args.scope (expr_of e)) c.in-Column.is)

pub typed-returns-in-Literal : goal.typed-returns-in-Literal
typed-returns-in-Literal g t c = ap Ok c.type_of.ensures ∙ sym (ap (λ e. typed (map (λ e. entry_of e) c.args.entries.now) c.args.scope (expr_of e)) c.in-Literal.is)

pub typed-returns-in-CurrentUser : goal.typed-returns-in-CurrentUser
typed-returns-in-CurrentUser g t c = sym (ap (λ e. typed (map (λ e. entry_of e) c.args.entries.now) c.args.scope (expr_of e)) c.in-CurrentUser.is)

pub typed-returns-in-CountStar : goal.typed-returns-in-CountStar
typed-returns-in-CountStar g t c = sym (ap (λ e. typed (map (λ e. entry_of e) c.args.entries.now) c.args.scope (expr_of e)) c.in-CountStar.is)

-- ---- the loops

pub typed_members-typed-requires : goal.typed_members-typed-requires
typed_members-typed-requires g t c κs within = (subst (λ n. weight (expr_of c.member-item.result) < n) c.decreases (exprs_lighter c.args.members.now c.loop-member.member-index c.member-item.result c.loop-member-test.true c.member-item.is c.loop-member.invariant.lighter), within)

pub typed_arms-typed-when-requires : goal.typed_arms-typed-when-requires
typed_arms-typed-when-requires g t c κs within = (subst (λ n. weight (expr_of c.arm-item.result.when) < n) c.decreases (when_lighter c.args.arms.now c.loop-arm.arm-index c.arm-item.result c.loop-arm-test.true c.arm-item.is c.loop-arm.invariant.lighter), within)

pub typed_arms-typed-requires : goal.typed_arms-typed-requires
typed_arms-typed-requires g t c κs within = (subst (λ n. weight (expr_of c.arm-item.result.result) < n) c.decreases (result_lighter c.args.arms.now c.loop-arm.arm-index c.arm-item.result c.loop-arm-test.true c.arm-item.is c.loop-arm.invariant.lighter), within)

pub typed_members-loop-member-smaller : goal.typed_members-loop-member-smaller
typed_members-loop-member-smaller g t c = falls (length c.args.members.now) c.loop-member.member-index c.loop-member-test.true

pub typed_arms-loop-arm-smaller : goal.typed_arms-loop-arm-smaller
typed_arms-loop-arm-smaller g t c = falls (length c.args.arms.now) c.loop-arm.arm-index c.loop-arm-test.true

pub typed_members-loop-member-init : goal.typed_members-loop-member-init
typed_members-loop-member-init g t c = record {
  rest = members_whole (typed_members (map (λ e. entry_of e) c.args.entries.now) c.args.scope (exprs c.args.members.now));
  lighter = le_refl (all_weight (exprs c.args.members.now));
}

pub typed_arms-loop-arm-init : goal.typed_arms-loop-arm-init
typed_arms-loop-arm-init g t c = record {
  rest = arms_whole (typed_arms (map (λ e. entry_of e) c.args.entries.now) c.args.scope (arms_of c.args.arms.now));
  lighter = le_refl (arms_weight (arms_of c.args.arms.now));
}

pub typed_members-offset_bounds-members-member-index : goal.typed_members-offset_bounds-members-member-index
typed_members-offset_bounds-members-member-index g t c = c.loop-member.auto.member-index-end

pub typed_members-bounds-members-member-index : goal.typed_members-bounds-members-member-index
typed_members-bounds-members-member-index g t c = c.loop-member-test.true

pub typed_arms-offset_bounds-arms-arm-index : goal.typed_arms-offset_bounds-arms-arm-index
typed_arms-offset_bounds-arms-arm-index g t c = c.loop-arm.auto.arm-index-end

pub typed_arms-bounds-arms-arm-index : goal.typed_arms-bounds-arms-arm-index
typed_arms-bounds-arms-arm-index g t c = c.loop-arm-test.true
