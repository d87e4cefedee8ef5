use borrow.Author.Count.{falls}
use Rattle.std.proofs.Common.{◌<◌, ◌∙◌, List, length, Vec, map, ap, refl, subst, arith}
use Rattle.std.proofs.Math.Nat.{le_refl}
use Rattle.row_ast.specs.View.{expr_of, exprs, arms as arms_of}
use Rattle.expr.specs.View.{bound_expr_of, bound_arm_pair}
use Rattle.expr.specs.declared.bound.BoundExpr.{BoundExpr}
use Rattle.expr.specs.declared.bound.BoundArm.{BoundArm}
use Rattle.row_ast.specs.Weights.{weight, all_weight, arms_weight}
use Rattle.scope.specs.View.{entry_of}
use Rattle.scope.specs.BoundExprs.{bound_members, bound_arms}
use Rattle.memory.proofs.Each.{after, after_nothing}
use Rattle.scope.proofs.Found.{failed}
use Rattle.row_ast.proofs.Walks.{and_is, or_is, case_none, case_other, case_lighter, otherwise_lighter, exprs_still, arms_still, exprs_lighter, when_lighter, result_lighter}
use Rattle.row_ast.proofs.Operands.{negate_is, in_is, is_null_is, not_is, cast_is, call_is, arithmetic_is, comparison_is, between_is}
use Rattle.memory.proofs.Lighter.{lighter, left_lighter, right_lighter, middle_lighter, last_lighter}
use Rattle.scope.proofs.Binds.{bound_as, members_over, members_opened, members_next, arms_bound_over, arms_opened, arms_next}
use Rattle.scope.proofs.expressions.+bind.Goals as goal

-- ---- each call is on less

pub bind_expr-bind_expr-requires : goal.bind_expr-bind_expr-requires
bind_expr-bind_expr-requires g t c κs within = (lighter (weight (expr_of c.deref.result.now)) _ t c.decreases (ap weight (negate_is c.args.expression.now c.in-Negate.offset c.in-Negate.operand c.deref.result.now c.deref.ensures c.in-Negate.is)), within)

pub bind_expr-bind_expr-left-requires : goal.bind_expr-bind_expr-left-requires
bind_expr-bind_expr-left-requires g t c κs within = (left_lighter (weight (expr_of c.deref-in-Arithmetic.result.now)) _ t c.decreases _ (ap weight (arithmetic_is c.args.expression.now c.in-Arithmetic.offset c.in-Arithmetic.left c.in-Arithmetic.right c.deref-in-Arithmetic.result.now c.deref-in-Arithmetic.ensures _ refl c.in-Arithmetic.operator c.in-Arithmetic.is)), within)

pub bind_expr-bind_expr-right-requires : goal.bind_expr-bind_expr-right-requires
bind_expr-bind_expr-right-requires g t c κs within = (right_lighter (weight (expr_of c.deref-in-Arithmetic-2.result.now)) _ t c.decreases _ (ap weight (arithmetic_is c.args.expression.now c.in-Arithmetic.offset c.in-Arithmetic.left c.in-Arithmetic.right c.deref-in-Arithmetic.result.now c.deref-in-Arithmetic.ensures c.deref-in-Arithmetic-2.result.now c.deref-in-Arithmetic-2.ensures c.in-Arithmetic.operator c.in-Arithmetic.is)), within)

pub bind_expr-bind_expr-left-requires-in-Comparison : goal.bind_expr-bind_expr-left-requires-in-Comparison
bind_expr-bind_expr-left-requires-in-Comparison g t c κs within = (left_lighter (weight (expr_of c.deref-in-Comparison.result.now)) _ t c.decreases _ (ap weight (comparison_is c.args.expression.now c.in-Comparison.offset c.in-Comparison.left c.in-Comparison.right c.deref-in-Comparison.result.now c.deref-in-Comparison.ensures _ refl c.in-Comparison.operator c.in-Comparison.is)), within)

pub bind_expr-bind_expr-right-requires-in-Comparison : goal.bind_expr-bind_expr-right-requires-in-Comparison
bind_expr-bind_expr-right-requires-in-Comparison g t c κs within = (right_lighter (weight (expr_of c.deref-in-Comparison-2.result.now)) _ t c.decreases _ (ap weight (comparison_is c.args.expression.now c.in-Comparison.offset c.in-Comparison.left c.in-Comparison.right c.deref-in-Comparison.result.now c.deref-in-Comparison.ensures c.deref-in-Comparison-2.result.now c.deref-in-Comparison-2.ensures c.in-Comparison.operator c.in-Comparison.is)), within)

pub bind_expr-bind_expr-operand-requires : goal.bind_expr-bind_expr-operand-requires
bind_expr-bind_expr-operand-requires g t c κs within = (left_lighter (weight (expr_of c.deref-in-Between.result.now)) _ t c.decreases _ (ap weight (between_is c.args.expression.now c.in-Between.offset c.in-Between.operand c.in-Between.low c.deref-in-Between.result.now c.deref-in-Between.ensures _ refl c.in-Between.high _ refl c.in-Between.negated c.in-Between.is)), within)

pub bind_expr-bind_expr-low-requires : goal.bind_expr-bind_expr-low-requires
bind_expr-bind_expr-low-requires g t c κs within = (middle_lighter (weight (expr_of c.deref-in-Between-2.result.now)) _ t c.decreases _ _ (ap weight (between_is c.args.expression.now c.in-Between.offset c.in-Between.operand c.in-Between.low c.deref-in-Between.result.now c.deref-in-Between.ensures c.deref-in-Between-2.result.now c.deref-in-Between-2.ensures c.in-Between.high _ refl c.in-Between.negated c.in-Between.is)), within)

pub bind_expr-bind_expr-high-requires : goal.bind_expr-bind_expr-high-requires
bind_expr-bind_expr-high-requires g t c κs within = (last_lighter (weight (expr_of c.deref-in-Between-3.result.now)) _ t c.decreases _ _ (ap weight (between_is c.args.expression.now c.in-Between.offset c.in-Between.operand c.in-Between.low c.deref-in-Between.result.now c.deref-in-Between.ensures c.deref-in-Between-2.result.now c.deref-in-Between-2.ensures c.in-Between.high c.deref-in-Between-3.result.now c.deref-in-Between-3.ensures c.in-Between.negated c.in-Between.is)), within)

pub bind_expr-bind_expr-operand-requires-in-In : goal.bind_expr-bind_expr-operand-requires-in-In
bind_expr-bind_expr-operand-requires-in-In g t c κs within = (lighter (weight (expr_of c.deref-in-In.result.now)) _ t c.decreases (ap weight (in_is c.args.expression.now c.in-In.offset c.in-In.operand c.deref-in-In.result.now c.deref-in-In.ensures c.in-In.negated c.in-In.values c.in-In.is)), within)

pub bind_expr-bind_expr-operand-requires-in-IsNull : goal.bind_expr-bind_expr-operand-requires-in-IsNull
bind_expr-bind_expr-operand-requires-in-IsNull g t c κs within = (lighter (weight (expr_of c.deref-in-IsNull.result.now)) _ t c.decreases (ap weight (is_null_is c.args.expression.now c.in-IsNull.offset c.in-IsNull.operand c.deref-in-IsNull.result.now c.deref-in-IsNull.ensures c.in-IsNull.negated c.in-IsNull.is)), within)

pub bind_expr-bind_expr-requires-in-Not : goal.bind_expr-bind_expr-requires-in-Not
bind_expr-bind_expr-requires-in-Not g t c κs within = (lighter (weight (expr_of c.deref-in-Not.result.now)) _ t c.decreases (ap weight (not_is c.args.expression.now c.in-Not.offset c.in-Not.operand c.deref-in-Not.result.now c.deref-in-Not.ensures c.in-Not.is)), within)

pub bind_expr-bind_expr-operand-requires-in-Cast : goal.bind_expr-bind_expr-operand-requires-in-Cast
bind_expr-bind_expr-operand-requires-in-Cast g t c κs within = (lighter (weight (expr_of c.deref-in-Cast.result.now)) _ t c.decreases (ap weight (cast_is c.args.expression.now c.in-Cast.offset c.in-Cast.operand c.deref-in-Cast.result.now c.deref-in-Cast.ensures c.in-Cast.to c.in-Cast.is)), within)

pub bind_expr-bind_expr-argument-requires : goal.bind_expr-bind_expr-argument-requires
bind_expr-bind_expr-argument-requires g t c κs within = (lighter (weight (expr_of c.deref-in-Call.result.now)) _ t c.decreases (ap weight (call_is c.args.expression.now c.in-Call.offset c.in-Call.argument c.deref-in-Call.result.now c.deref-in-Call.ensures c.in-Call.aggregate c.in-Call.is)), within)

pub bind_expr-bind_members-requires : goal.bind_expr-bind_members-requires
bind_expr-bind_members-requires g t c κs within = (lighter (all_weight (exprs c.deref-in-And.result.now)) _ t c.decreases (ap weight (and_is c.args.expression.now c.in-And.offset c.in-And.members c.deref-in-And.result.now c.deref-in-And.ensures.value c.in-And.is)), within)

pub bind_expr-bind_members-requires-in-Or : goal.bind_expr-bind_members-requires-in-Or
bind_expr-bind_members-requires-in-Or g t c κs within = (lighter (all_weight (exprs c.deref-in-Or.result.now)) _ t c.decreases (ap weight (or_is c.args.expression.now c.in-Or.offset c.in-Or.members c.deref-in-Or.result.now c.deref-in-Or.ensures.value c.in-Or.is)), within)

pub bind_expr-bind_arms-arms-requires : goal.bind_expr-bind_arms-arms-requires
bind_expr-bind_arms-arms-requires g t c κs within = (subst (λ n. arms_weight (arms_of c.deref-in-Case.result.now) < n) c.decreases (case_lighter c.args.expression.now c.in-Case.offset c.in-Case.arms c.deref-in-Case.result.now c.deref-in-Case.ensures.value c.in-Case.otherwise c.in-Case.is), within)

pub bind_expr-bind_expr-value-requires : goal.bind_expr-bind_expr-value-requires
bind_expr-bind_expr-value-requires g t c κs within = (subst (λ n. weight (expr_of c.deref-in-Some.result.now) < n) c.decreases (otherwise_lighter c.args.expression.now c.in-Case.offset c.in-Case.arms c.deref-in-Case.result.now c.deref-in-Case.ensures.value c.in-Case.otherwise c.in-Case.is c.in-Some.value c.in-Some.is c.deref-in-Some.result.now c.deref-in-Some.ensures), within)

-- ---- the result of each node

pub bind_expr-returns-in-Column : goal.bind_expr-returns-in-Column
bind_expr-returns-in-Column g t c = bound_as (map (λ e. entry_of e) c.args.entries.now) c.args.scope c.column.result _ _ (ap expr_of c.in-Column.is) (rw c.find_column.ensures at c.column.ensures)

pub bind_expr-returns-in-Literal : goal.bind_expr-returns-in-Literal
bind_expr-returns-in-Literal g t c = bound_as (map (λ e. entry_of e) c.args.entries.now) c.args.scope c.literal.result _ _ (ap expr_of c.in-Literal.is) c.literal.ensures

pub bind_expr-returns-in-CurrentUser : goal.bind_expr-returns-in-CurrentUser
bind_expr-returns-in-CurrentUser g t c = bound_as (map (λ e. entry_of e) c.args.entries.now) c.args.scope c.made.result _ _ (ap expr_of c.in-CurrentUser.is) (c.made.ensures _ refl)

pub bind_expr-returns-in-CountStar : goal.bind_expr-returns-in-CountStar
bind_expr-returns-in-CountStar g t c = bound_as (map (λ e. entry_of e) c.args.entries.now) c.args.scope c.made-in-CountStar.result _ _ (ap expr_of c.in-CountStar.is) (c.made-in-CountStar.ensures _ refl)

pub bind_expr-returns-in-Negate : goal.bind_expr-returns-in-Negate
bind_expr-returns-in-Negate g t c = bound_as (map (λ e. entry_of e) c.args.entries.now) c.args.scope c.negation.result _ _ (negate_is c.args.expression.now c.in-Negate.offset c.in-Negate.operand c.deref.result.now c.deref.ensures c.in-Negate.is) (c.negation.ensures _ c.bind_expr.ensures)

pub bind_expr-returns-in-Arithmetic : goal.bind_expr-returns-in-Arithmetic
bind_expr-returns-in-Arithmetic g t c = bound_as (map (λ e. entry_of e) c.args.entries.now) c.args.scope c.arithmetic.result _ _ (arithmetic_is c.args.expression.now c.in-Arithmetic.offset c.in-Arithmetic.left c.in-Arithmetic.right c.deref-in-Arithmetic.result.now c.deref-in-Arithmetic.ensures c.deref-in-Arithmetic-2.result.now c.deref-in-Arithmetic-2.ensures c.in-Arithmetic.operator c.in-Arithmetic.is) (c.arithmetic.ensures _ _ c.bind_expr-left.ensures c.bind_expr-right.ensures)

pub bind_expr-returns-in-Comparison : goal.bind_expr-returns-in-Comparison
bind_expr-returns-in-Comparison g t c = bound_as (map (λ e. entry_of e) c.args.entries.now) c.args.scope c.comparison.result _ _ (comparison_is c.args.expression.now c.in-Comparison.offset c.in-Comparison.left c.in-Comparison.right c.deref-in-Comparison.result.now c.deref-in-Comparison.ensures c.deref-in-Comparison-2.result.now c.deref-in-Comparison-2.ensures c.in-Comparison.operator c.in-Comparison.is) (c.comparison.ensures _ _ c.bind_expr-left-in-Comparison.ensures c.bind_expr-right-in-Comparison.ensures)

pub bind_expr-returns-in-Between : goal.bind_expr-returns-in-Between
bind_expr-returns-in-Between g t c = bound_as (map (λ e. entry_of e) c.args.entries.now) c.args.scope c.between.result _ _ (between_is c.args.expression.now c.in-Between.offset c.in-Between.operand c.in-Between.low c.deref-in-Between.result.now c.deref-in-Between.ensures c.deref-in-Between-2.result.now c.deref-in-Between-2.ensures c.in-Between.high c.deref-in-Between-3.result.now c.deref-in-Between-3.ensures c.in-Between.negated c.in-Between.is) (c.between.ensures _ _ _ c.bind_expr-operand.ensures c.bind_expr-low.ensures c.bind_expr-high.ensures)

pub bind_expr-returns-in-In : goal.bind_expr-returns-in-In
bind_expr-returns-in-In g t c = bound_as (map (λ e. entry_of e) c.args.entries.now) c.args.scope c.membership.result _ _ (in_is c.args.expression.now c.in-In.offset c.in-In.operand c.deref-in-In.result.now c.deref-in-In.ensures c.in-In.negated c.in-In.values c.in-In.is) (rw c.as_slice.ensures at (c.membership.ensures _ c.bind_expr-operand-in-In.ensures))

pub bind_expr-returns-in-IsNull : goal.bind_expr-returns-in-IsNull
bind_expr-returns-in-IsNull g t c = bound_as (map (λ e. entry_of e) c.args.entries.now) c.args.scope c.null_check.result _ _ (is_null_is c.args.expression.now c.in-IsNull.offset c.in-IsNull.operand c.deref-in-IsNull.result.now c.deref-in-IsNull.ensures c.in-IsNull.negated c.in-IsNull.is) (c.null_check.ensures _ c.bind_expr-operand-in-IsNull.ensures)

pub bind_expr-returns-in-Not : goal.bind_expr-returns-in-Not
bind_expr-returns-in-Not g t c = bound_as (map (λ e. entry_of e) c.args.entries.now) c.args.scope c.logical_not.result _ _ (not_is c.args.expression.now c.in-Not.offset c.in-Not.operand c.deref-in-Not.result.now c.deref-in-Not.ensures c.in-Not.is) (c.logical_not.ensures _ c.bind_expr-in-Not.ensures)

pub bind_expr-returns-in-And : goal.bind_expr-returns-in-And
bind_expr-returns-in-And g t c = bound_as (map (λ e. entry_of e) c.args.entries.now) c.args.scope c.conjunction.result _ _ (and_is c.args.expression.now c.in-And.offset c.in-And.members c.deref-in-And.result.now c.deref-in-And.ensures.value c.in-And.is) (c.conjunction.ensures _ c.bind_members.ensures)

pub bind_expr-returns-in-Or : goal.bind_expr-returns-in-Or
bind_expr-returns-in-Or g t c = bound_as (map (λ e. entry_of e) c.args.entries.now) c.args.scope c.disjunction.result _ _ (or_is c.args.expression.now c.in-Or.offset c.in-Or.members c.deref-in-Or.result.now c.deref-in-Or.ensures.value c.in-Or.is) (c.disjunction.ensures _ c.bind_members-in-Or.ensures)

pub bind_expr-returns-in-Cast : goal.bind_expr-returns-in-Cast
bind_expr-returns-in-Cast g t c = bound_as (map (λ e. entry_of e) c.args.entries.now) c.args.scope c.cast.result _ _ (cast_is c.args.expression.now c.in-Cast.offset c.in-Cast.operand c.deref-in-Cast.result.now c.deref-in-Cast.ensures c.in-Cast.to c.in-Cast.is) (c.cast.ensures _ c.bind_expr-operand-in-Cast.ensures)

pub bind_expr-returns-in-Some : goal.bind_expr-returns-in-Some
bind_expr-returns-in-Some g t c = bound_as (map (λ e. entry_of e) c.args.entries.now) c.args.scope c.with_otherwise.result _ _ (case_other c.args.expression.now c.in-Case.offset c.in-Case.arms c.deref-in-Case.result.now c.deref-in-Case.ensures.value c.in-Case.otherwise c.in-Case.is c.in-Some.value c.in-Some.is c.deref-in-Some.result.now c.deref-in-Some.ensures) (c.with_otherwise.ensures _ _ c.bind_arms-arms.ensures c.bind_expr-value.ensures)

pub bind_expr-returns-in-None : goal.bind_expr-returns-in-None
bind_expr-returns-in-None g t c = bound_as (map (λ e. entry_of e) c.args.entries.now) c.args.scope c.without_otherwise.result _ _ (case_none c.args.expression.now c.in-Case.offset c.in-Case.arms c.deref-in-Case.result.now c.deref-in-Case.ensures.value c.in-Case.otherwise c.in-Case.is c.in-None.is) (c.without_otherwise.ensures _ c.bind_arms-arms.ensures)

pub bind_expr-returns-in-Call : goal.bind_expr-returns-in-Call
bind_expr-returns-in-Call g t c = bound_as (map (λ e. entry_of e) c.args.entries.now) c.args.scope c.call.result _ _ (call_is c.args.expression.now c.in-Call.offset c.in-Call.argument c.deref-in-Call.result.now c.deref-in-Call.ensures c.in-Call.aggregate c.in-Call.is) (c.call.ensures _ c.bind_expr-argument.ensures)

-- ---- the walks over members and arms

pub bind_members-bind_expr-requires : goal.bind_members-bind_expr-requires
bind_members-bind_expr-requires g t c κs within = (subst (λ n. weight (expr_of c.member-item.result) < n) c.decreases (exprs_lighter c.args.members.now c.loop-member.member-index c.member-item.result c.loop-member-test.true c.member-item.is c.loop-member.invariant.lighter), within)

pub bind_members-returns-in-Err : goal.bind_members-returns-in-Err
bind_members-returns-in-Err g t c =
    failed (λ (v : List (BoundExpr g.row.A.Denot)). map bound_expr_of v) (λ (v : Vec (BoundExpr g.row.A.Denot) g.row.A.Denot). map bound_expr_of v.items) c.in-Err.failure _ _ _
    (members_opened (map (λ e. entry_of e) c.args.entries.now) c.args.scope c.args.members.now c.loop-member.member-index c.member-item.result c.loop-member-test.true c.member-item.is (map bound_expr_of c.loop-member.all) _ c.loop-member.invariant.rest)
    (c.in-Err.ensures _ c.bind_expr.ensures)

pub bind_members-loop-member-preserved : goal.bind_members-loop-member-preserved
bind_members-loop-member-preserved g t c = record {
  rest = members_next (map (λ e. entry_of e) c.args.entries.now) c.args.scope c.args.members.now c.loop-member.member-index c.member-item.result c.loop-member-test.true c.member-item.is (map bound_expr_of c.loop-member.all) _ c.loop-member.invariant.rest (map bound_expr_of c.in-Ok.more) (c.in-Ok.ensures _ c.bind_expr.ensures);
  lighter = exprs_still c.args.members.now c.loop-member.member-index c.member-item.result c.loop-member-test.true c.member-item.is c.loop-member.invariant.lighter;
}

pub bind_members-returns : goal.bind_members-returns
bind_members-returns g t c = rw c.into_vec.ensures (members_over (map (λ e. entry_of e) c.args.entries.now) c.args.scope c.args.members.now c.loop-member.member-index (map bound_expr_of c.loop-member.all) _ c.loop-member.invariant.rest (omega (arith, c.loop-member-test.false)))

pub bind_arms-bind_expr-when-requires : goal.bind_arms-bind_expr-when-requires
bind_arms-bind_expr-when-requires g t c κs within = (subst (λ n. weight (expr_of c.next-item.result.when) < n) c.decreases (when_lighter c.args.arms.now c.loop-next.next-index c.next-item.result c.loop-next-test.true c.next-item.is c.loop-next.invariant.lighter), within)

pub bind_arms-bind_expr-result-requires : goal.bind_arms-bind_expr-result-requires
bind_arms-bind_expr-result-requires g t c κs within = (subst (λ n. weight (expr_of c.next-item.result.result) < n) c.decreases (result_lighter c.args.arms.now c.loop-next.next-index c.next-item.result c.loop-next-test.true c.next-item.is c.loop-next.invariant.lighter), within)

pub bind_arms-returns-in-Err : goal.bind_arms-returns-in-Err
bind_arms-returns-in-Err g t c =
    failed (λ (v : List (BoundArm g.row.A.Denot)). map bound_arm_pair v) (λ (v : Vec (BoundArm g.row.A.Denot) g.row.A.Denot). map bound_arm_pair v.items) c.in-Err.failure _ _ _
    (arms_opened (map (λ e. entry_of e) c.args.entries.now) c.args.scope c.args.arms.now c.loop-next.next-index c.next-item.result c.loop-next-test.true c.next-item.is (map bound_arm_pair c.loop-next.all) _ c.loop-next.invariant.rest)
    (c.in-Err.ensures _ _ c.bind_expr-when.ensures c.bind_expr-result.ensures)

pub bind_arms-loop-next-preserved : goal.bind_arms-loop-next-preserved
bind_arms-loop-next-preserved g t c = record {
  rest = arms_next (map (λ e. entry_of e) c.args.entries.now) c.args.scope c.args.arms.now c.loop-next.next-index c.next-item.result c.loop-next-test.true c.next-item.is (map bound_arm_pair c.loop-next.all) _ c.loop-next.invariant.rest (map bound_arm_pair c.in-Ok.more) (c.in-Ok.ensures _ _ c.bind_expr-when.ensures c.bind_expr-result.ensures);
  lighter = arms_still c.args.arms.now c.loop-next.next-index c.next-item.result c.loop-next-test.true c.next-item.is c.loop-next.invariant.lighter;
}

pub bind_arms-returns : goal.bind_arms-returns
bind_arms-returns g t c = rw c.into_vec.ensures (arms_bound_over (map (λ e. entry_of e) c.args.entries.now) c.args.scope c.args.arms.now c.loop-next.next-index (map bound_arm_pair c.loop-next.all) _ c.loop-next.invariant.rest (omega (arith, c.loop-next-test.false)))

pub bind_members-offset_bounds-members-member-index : goal.bind_members-offset_bounds-members-member-index
bind_members-offset_bounds-members-member-index g t c = c.loop-member.auto.member-index-end

pub bind_members-bounds-members-member-index : goal.bind_members-bounds-members-member-index
bind_members-bounds-members-member-index g t c = c.loop-member-test.true

pub bind_members-loop-member-smaller : goal.bind_members-loop-member-smaller
bind_members-loop-member-smaller g t c = falls (length c.args.members.now) c.loop-member.member-index c.loop-member-test.true

pub bind_members-loop-member-init : goal.bind_members-loop-member-init
bind_members-loop-member-init g t c = record {
  rest = ap (λ (all : List (BoundExpr g.row.A.Denot)). after (map bound_expr_of all) (bound_members (map (λ e. entry_of e) c.args.entries.now) c.args.scope (exprs c.args.members.now))) c.new-all.ensures ∙ after_nothing (bound_members (map (λ e. entry_of e) c.args.entries.now) c.args.scope (exprs c.args.members.now));
  lighter = le_refl (all_weight (exprs c.args.members.now));
}

pub bind_arms-offset_bounds-arms-next-index : goal.bind_arms-offset_bounds-arms-next-index
bind_arms-offset_bounds-arms-next-index g t c = c.loop-next.auto.next-index-end

pub bind_arms-bounds-arms-next-index : goal.bind_arms-bounds-arms-next-index
bind_arms-bounds-arms-next-index g t c = c.loop-next-test.true

pub bind_arms-loop-next-smaller : goal.bind_arms-loop-next-smaller
bind_arms-loop-next-smaller g t c = falls (length c.args.arms.now) c.loop-next.next-index c.loop-next-test.true

pub bind_arms-loop-next-init : goal.bind_arms-loop-next-init
bind_arms-loop-next-init g t c = record {
  rest = ap (λ (all : List (BoundArm g.row.A.Denot)). after (map bound_arm_pair all) (bound_arms (map (λ e. entry_of e) c.args.entries.now) c.args.scope (arms_of c.args.arms.now))) c.new-all.ensures ∙ after_nothing (bound_arms (map (λ e. entry_of e) c.args.entries.now) c.args.scope (arms_of c.args.arms.now));
  lighter = le_refl (arms_weight (arms_of c.args.arms.now));
}
