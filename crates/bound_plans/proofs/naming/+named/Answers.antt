use borrow.Author.Count.{falls}
use Rattle.std.proofs.Common.{◌∙◌, ap, length, map, sym, refl, arith}
use Rattle.std.proofs.Math.Nat.{le_refl}
use Rattle.std.proofs.lemmas.Result.{IfOk-from_err}
use Rattle.value.specs.Datum.{datum}
use Rattle.row_ast.specs.Ast as ast
use Rattle.row_ast.specs.View.{expr_of, arm_pair}
use Rattle.expr.specs.View.{bound_expr_of, bound_exprs, bound_arm_pair, bound_arms}
use Rattle.expr.specs.Weights.{weight, all_weight, arms_weight}
use Rattle.expr.proofs.Walks.{and_is, or_is, case_none, case_some, case_lighter, exprs_still, arms_still, exprs_lighter, when_lighter, result_lighter}
use Rattle.expr.proofs.Operands.{negate_is, in_is, is_null_is, not_is, cast_is, call_is, arithmetic_is, comparison_is, between_is}
use Rattle.memory.proofs.Lists.{map_next, map_over, pushed}
use Rattle.memory.proofs.Lighter.{lighter, left_lighter, right_lighter, middle_lighter, last_lighter}
use Rattle.scope.specs.View.{entries_of}
use Rattle.bound_plans.specs.Named.{named}
use Rattle.bound_plans.proofs.Made.{made_of, made_as, between_made, in_made, none_yet, named_arm, members_named, arms_named}
use Rattle.bound_plans.proofs.naming.+named.Goals as goal

pub named_members-named-requires : goal.named_members-named-requires
named_members-named-requires g t c κs within = let w = exprs_lighter c.args.members.now c.loop-member.member-index c.member-item.result c.loop-member-test.true c.member-item.is c.loop-member.invariant.lighter in (omega (arith, c.decreases, w), within)

pub named_members-loop-member-preserved : goal.named_members-loop-member-preserved
named_members-loop-member-preserved g t c = record {
  rest = map_next (named (entries_of c.args.entries.now)) bound_expr_of c.args.members.now c.loop-member.member-index _ _ c.loop-member.invariant.rest c.member-item.result c.loop-member-test.true c.member-item.is _ (pushed expr_of c.loop-member.all _ _ _ c.in_ok-push-in-Ok.ensures.ok (ap expr_of c.into_inner.ensures ∙ c.in-Ok.ensures));
  lighter = exprs_still c.args.members.now c.loop-member.member-index c.member-item.result c.loop-member-test.true c.member-item.is c.loop-member.invariant.lighter;
}

pub named_members-returns : goal.named_members-returns
named_members-returns g t c =
    rw c.into_vec.ensures
    (ap ast.exprs_of (map_over (named (entries_of c.args.entries.now)) bound_expr_of c.args.members.now c.loop-member.member-index _ _ c.loop-member.invariant.rest (omega (arith, c.loop-member-test.false)))
    ∙ members_named (entries_of c.args.entries.now) (map bound_expr_of c.args.members.now))

pub named_arms-named-when-requires : goal.named_arms-named-when-requires
named_arms-named-when-requires g t c κs within = let w = when_lighter c.args.arms.now c.loop-next.next-index c.next-item.result c.loop-next-test.true c.next-item.is c.loop-next.invariant.lighter in (omega (arith, c.decreases, w), within)

pub named_arms-named-result-requires : goal.named_arms-named-result-requires
named_arms-named-result-requires g t c κs within = let w = result_lighter c.args.arms.now c.loop-next.next-index c.next-item.result c.loop-next-test.true c.next-item.is c.loop-next.invariant.lighter in (omega (arith, c.decreases, w), within)

pub named_arms-loop-next-preserved : goal.named_arms-loop-next-preserved
named_arms-loop-next-preserved g t c = record {
  rest = map_next (named_arm (entries_of c.args.entries.now)) bound_arm_pair c.args.arms.now c.loop-next.next-index _ _ c.loop-next.invariant.rest c.next-item.result c.loop-next-test.true c.next-item.is _ (pushed arm_pair c.loop-next.all _ c.in-Ok.arm _ c.in_ok-push-in-Ok.ensures.ok (c.in-Ok.ensures _ _ c.named-when.ensures c.named-result.ensures));
  lighter = arms_still c.args.arms.now c.loop-next.next-index c.next-item.result c.loop-next-test.true c.next-item.is c.loop-next.invariant.lighter;
}

pub named_arms-returns : goal.named_arms-returns
named_arms-returns g t c =
    rw c.into_vec.ensures
    (ap ast.arms_of (map_over (named_arm (entries_of c.args.entries.now)) bound_arm_pair c.args.arms.now c.loop-next.next-index _ _ c.loop-next.invariant.rest (omega (arith, c.loop-next-test.false)))
    ∙ arms_named (entries_of c.args.entries.now) (map bound_arm_pair c.args.arms.now))

pub named_arms-loop-next-smaller : goal.named_arms-loop-next-smaller
named_arms-loop-next-smaller g t c = falls (length c.args.arms.now) c.loop-next.next-index c.loop-next-test.true

pub named_arms-returns-in_err-push-in-Ok : goal.named_arms-returns-in_err-push-in-Ok
named_arms-returns-in_err-push-in-Ok g t c = IfOk-from_err c.from_residual.result _ c.from_residual.ensures.0

pub named_members-loop-member-smaller : goal.named_members-loop-member-smaller
named_members-loop-member-smaller g t c = falls (length c.args.members.now) c.loop-member.member-index c.loop-member-test.true

pub named_members-returns-in_err-push-in-Ok : goal.named_members-returns-in_err-push-in-Ok
named_members-returns-in_err-push-in-Ok g t c = IfOk-from_err c.from_residual.result _ c.from_residual.ensures.0

pub named_members-loop-member-init : goal.named_members-loop-member-init
named_members-loop-member-init g t c = record {
  rest = none_yet expr_of _ _ c.new-all.ensures;
  lighter = le_refl (all_weight (bound_exprs c.args.members.now));
}

pub named_members-offset_bounds-members-member-index : goal.named_members-offset_bounds-members-member-index
named_members-offset_bounds-members-member-index g t c = c.loop-member.auto.member-index-end

pub named_members-bounds-members-member-index : goal.named_members-bounds-members-member-index
named_members-bounds-members-member-index g t c = c.loop-member-test.true

pub named_arms-loop-next-init : goal.named_arms-loop-next-init
named_arms-loop-next-init g t c = record {
  rest = none_yet arm_pair _ _ c.new-all.ensures;
  lighter = le_refl (arms_weight (bound_arms c.args.arms.now));
}

pub named_arms-offset_bounds-arms-next-index : goal.named_arms-offset_bounds-arms-next-index
named_arms-offset_bounds-arms-next-index g t c = c.loop-next.auto.next-index-end

pub named_arms-bounds-arms-next-index : goal.named_arms-bounds-arms-next-index
named_arms-bounds-arms-next-index g t c = c.loop-next-test.true

-- ---- nodes

pub named-returns-in-Column : goal.named-returns-in-Column
named-returns-in-Column g t c = made_as c.column.result _ _ (ap (λ e. named (entries_of c.args.entries.now) (bound_expr_of e)) c.in-Column.is) (c.column.ensures _ c.column_ref.ensures)

pub named-returns-in-CurrentUser : goal.named-returns-in-CurrentUser
named-returns-in-CurrentUser g t c = made_of c.boxed.result _ _ (sym (ap (λ e. named (entries_of c.args.entries.now) (bound_expr_of e)) c.in-CurrentUser.is)) c.boxed.ensures

pub named-returns-in-CountStar : goal.named-returns-in-CountStar
named-returns-in-CountStar g t c = made_of c.boxed-in-CountStar.result _ _ (sym (ap (λ e. named (entries_of c.args.entries.now) (bound_expr_of e)) c.in-CountStar.is)) c.boxed-in-CountStar.ensures

pub named-returns-in-Literal : goal.named-returns-in-Literal
named-returns-in-Literal g t c = made_as c.literal.result _ _ (ap (λ e. named (entries_of c.args.entries.now) (bound_expr_of e)) c.in-Literal.is) (c.literal.ensures _ c.copy.ensures)

pub named-returns-in-Negate : goal.named-returns-in-Negate
named-returns-in-Negate g t c = made_as c.negation.result _ _ (ap (named (entries_of c.args.entries.now)) (negate_is c.args.condition.now c.in-Negate.offset c.in-Negate.operand c.deref.result.now c.deref.ensures c.in-Negate.is)) (c.negation.ensures _ c.named.ensures)

pub named-returns-in-IsNull : goal.named-returns-in-IsNull
named-returns-in-IsNull g t c = made_as c.null_check.result _ _ (ap (named (entries_of c.args.entries.now)) (is_null_is c.args.condition.now c.in-IsNull.offset c.in-IsNull.operand c.deref-in-IsNull.result.now c.deref-in-IsNull.ensures c.in-IsNull.negated c.in-IsNull.is)) (c.null_check.ensures _ c.named-in-IsNull.ensures)

pub named-returns-in-Not : goal.named-returns-in-Not
named-returns-in-Not g t c = made_as c.logical_not.result _ _ (ap (named (entries_of c.args.entries.now)) (not_is c.args.condition.now c.in-Not.offset c.in-Not.operand c.deref-in-Not.result.now c.deref-in-Not.ensures c.in-Not.is)) (c.logical_not.ensures _ c.named-in-Not.ensures)

pub named-returns-in-Cast : goal.named-returns-in-Cast
named-returns-in-Cast g t c = made_as c.cast.result _ _ (ap (named (entries_of c.args.entries.now)) (cast_is c.args.condition.now c.in-Cast.offset c.in-Cast.operand c.deref-in-Cast.result.now c.deref-in-Cast.ensures c.in-Cast.to c.in-Cast.is)) (c.cast.ensures _ c.named-in-Cast.ensures)

pub named-returns-in-Call : goal.named-returns-in-Call
named-returns-in-Call g t c = made_as c.call.result _ _ (ap (named (entries_of c.args.entries.now)) (call_is c.args.condition.now c.in-Call.offset c.in-Call.argument c.deref-in-Call.result.now c.deref-in-Call.ensures c.in-Call.aggregate c.in-Call.is)) (c.call.ensures _ c.named-in-Call.ensures)

pub named-returns-in_ok-left-in-Arithmetic : goal.named-returns-in_ok-left-in-Arithmetic
named-returns-in_ok-left-in-Arithmetic g t c = made_as c.arithmetic.result _ _ (ap (named (entries_of c.args.entries.now)) (arithmetic_is c.args.condition.now c.in-Arithmetic.offset c.in-Arithmetic.left c.in-Arithmetic.right c.deref-in-Arithmetic.result.now c.deref-in-Arithmetic.ensures c.deref-in-Arithmetic-2.result.now c.deref-in-Arithmetic-2.ensures c.in-Arithmetic.operator c.in-Arithmetic.is) ∙ ap (λ l. ast.Arithmetic c.in-Arithmetic.operator c.in-Arithmetic.offset l (named (entries_of c.args.entries.now) (bound_expr_of c.deref-in-Arithmetic-2.result.now))) (sym c.in_ok-left-in-Arithmetic.ensures)) (c.arithmetic.ensures _ c.named-in-Arithmetic-2.ensures)

pub named-returns-in_ok-left-in-Comparison : goal.named-returns-in_ok-left-in-Comparison
named-returns-in_ok-left-in-Comparison g t c = made_as c.comparison.result _ _ (ap (named (entries_of c.args.entries.now)) (comparison_is c.args.condition.now c.in-Comparison.offset c.in-Comparison.left c.in-Comparison.right c.deref-in-Comparison.result.now c.deref-in-Comparison.ensures c.deref-in-Comparison-2.result.now c.deref-in-Comparison-2.ensures c.in-Comparison.operator c.in-Comparison.is) ∙ ap (λ l. ast.Comparison c.in-Comparison.operator c.in-Comparison.offset l (named (entries_of c.args.entries.now) (bound_expr_of c.deref-in-Comparison-2.result.now))) (sym c.in_ok-left-in-Comparison.ensures)) (c.comparison.ensures _ c.named-in-Comparison-2.ensures)

pub named-returns-in_ok-low-in-Between : goal.named-returns-in_ok-low-in-Between
named-returns-in_ok-low-in-Between g t c = made_as c.between.result _ _ (between_made c.in-Between.negated c.in-Between.offset _ _ _ _ _ _ (ap (named (entries_of c.args.entries.now)) (between_is c.args.condition.now c.in-Between.negated c.in-Between.offset c.in-Between.operand c.in-Between.low c.in-Between.high c.in-Between.is c.deref-in-Between.result.now c.deref-in-Between.ensures c.deref-in-Between-2.result.now c.deref-in-Between-2.ensures c.deref-in-Between-3.result.now c.deref-in-Between-3.ensures)) c.in_ok-operand-in-Between.ensures c.in_ok-low-in-Between.ensures) (c.between.ensures _ c.named-in-Between-3.ensures)

pub named-returns-in-In : goal.named-returns-in-In
named-returns-in-In g t c = made_as c.membership.result _ _ (in_made c.in-In.negated c.in-In.offset _ _ _ _ (ap (named (entries_of c.args.entries.now)) (in_is c.args.condition.now c.in-In.negated c.in-In.offset c.in-In.values c.in-In.operand c.in-In.is c.deref-in-In.result.now c.deref-in-In.ensures)) (ap (map datum) c.as_slice.ensures)) (c.membership.ensures _ c.named-operand.ensures)

pub named-returns-in-And : goal.named-returns-in-And
named-returns-in-And g t c = made_as c.conjunction.result _ _ (ap (named (entries_of c.args.entries.now)) (and_is c.args.condition.now c.in-And.offset c.in-And.members c.deref-in-And.result.now c.deref-in-And.ensures.value c.in-And.is)) (c.conjunction.ensures _ c.named_members.ensures)

pub named-returns-in-Or : goal.named-returns-in-Or
named-returns-in-Or g t c = made_as c.disjunction.result _ _ (ap (named (entries_of c.args.entries.now)) (or_is c.args.condition.now c.in-Or.offset c.in-Or.members c.deref-in-Or.result.now c.deref-in-Or.ensures.value c.in-Or.is)) (c.disjunction.ensures _ c.named_members-in-Or.ensures)

pub named-returns-in-Some : goal.named-returns-in-Some
named-returns-in-Some g t c =
    made_as c.with_otherwise.result _ _ (ap (named (entries_of c.args.entries.now)) (case_some c.args.condition.now c.in-Case.offset c.in-Case.arms c.deref-in-Case.result.now c.deref-in-Case.ensures.value c.in-Case.otherwise c.in-Case.is c.in-Some.value c.in-Some.is))
    (c.with_otherwise.ensures _ _ c.named_arms-arms.ensures (rw c.deref-in-Some.ensures at c.named-value.ensures))

pub named-returns-in-None : goal.named-returns-in-None
named-returns-in-None g t c =
    made_as c.without_otherwise.result _ _ (ap (named (entries_of c.args.entries.now)) (case_none c.args.condition.now c.in-Case.offset c.in-Case.arms c.deref-in-Case.result.now c.deref-in-Case.ensures.value c.in-Case.otherwise c.in-Case.is c.in-None.is)) (c.without_otherwise.ensures _ c.named_arms-arms.ensures)

-- ---- no memory

pub named-returns-in_err-left-in-Arithmetic : goal.named-returns-in_err-left-in-Arithmetic
named-returns-in_err-left-in-Arithmetic g t c = IfOk-from_err c.from_residual.result _ c.from_residual.ensures.0

pub named-returns-in_err-left-in-Comparison : goal.named-returns-in_err-left-in-Comparison
named-returns-in_err-left-in-Comparison g t c = IfOk-from_err c.from_residual-in_err-left-in-Comparison.result _ c.from_residual-in_err-left-in-Comparison.ensures.0

pub named-returns-in_err-operand-in-Between : goal.named-returns-in_err-operand-in-Between
named-returns-in_err-operand-in-Between g t c = IfOk-from_err c.from_residual-in_err-operand-in-Between.result _ c.from_residual-in_err-operand-in-Between.ensures.0

pub named-returns-in_err-low-in-Between : goal.named-returns-in_err-low-in-Between
named-returns-in_err-low-in-Between g t c = IfOk-from_err c.from_residual-in_err-low-in-Between.result _ c.from_residual-in_err-low-in-Between.ensures.0

-- ---- each call is on less

pub named-named-requires : goal.named-named-requires
named-named-requires g t c κs within = (lighter (weight (bound_expr_of c.deref.result.now)) _ t c.decreases (ap weight (negate_is c.args.condition.now c.in-Negate.offset c.in-Negate.operand c.deref.result.now c.deref.ensures c.in-Negate.is)), within)

pub named-named-requires-in-IsNull : goal.named-named-requires-in-IsNull
named-named-requires-in-IsNull g t c κs within = (lighter (weight (bound_expr_of c.deref-in-IsNull.result.now)) _ t c.decreases (ap weight (is_null_is c.args.condition.now c.in-IsNull.offset c.in-IsNull.operand c.deref-in-IsNull.result.now c.deref-in-IsNull.ensures c.in-IsNull.negated c.in-IsNull.is)), within)

pub named-named-requires-in-Not : goal.named-named-requires-in-Not
named-named-requires-in-Not g t c κs within = (lighter (weight (bound_expr_of c.deref-in-Not.result.now)) _ t c.decreases (ap weight (not_is c.args.condition.now c.in-Not.offset c.in-Not.operand c.deref-in-Not.result.now c.deref-in-Not.ensures c.in-Not.is)), within)

pub named-named-requires-in-Cast : goal.named-named-requires-in-Cast
named-named-requires-in-Cast g t c κs within = (lighter (weight (bound_expr_of c.deref-in-Cast.result.now)) _ t c.decreases (ap weight (cast_is c.args.condition.now c.in-Cast.offset c.in-Cast.operand c.deref-in-Cast.result.now c.deref-in-Cast.ensures c.in-Cast.to c.in-Cast.is)), within)

pub named-named-requires-in-Call : goal.named-named-requires-in-Call
named-named-requires-in-Call g t c κs within = (lighter (weight (bound_expr_of c.deref-in-Call.result.now)) _ t c.decreases (ap weight (call_is c.args.condition.now c.in-Call.offset c.in-Call.argument c.deref-in-Call.result.now c.deref-in-Call.ensures c.in-Call.aggregate c.in-Call.is)), within)

pub named-named-operand-requires : goal.named-named-operand-requires
named-named-operand-requires g t c κs within = (lighter (weight (bound_expr_of c.deref-in-In.result.now)) _ t c.decreases (ap weight (in_is c.args.condition.now c.in-In.negated c.in-In.offset c.in-In.values c.in-In.operand c.in-In.is c.deref-in-In.result.now c.deref-in-In.ensures)), within)

pub named-named-requires-in-Arithmetic : goal.named-named-requires-in-Arithmetic
named-named-requires-in-Arithmetic g t c κs within = (left_lighter (weight (bound_expr_of c.deref-in-Arithmetic.result.now)) _ t c.decreases _ (ap weight (arithmetic_is c.args.condition.now c.in-Arithmetic.offset c.in-Arithmetic.left c.in-Arithmetic.right c.deref-in-Arithmetic.result.now c.deref-in-Arithmetic.ensures c.in-Arithmetic.right.value refl c.in-Arithmetic.operator c.in-Arithmetic.is)), within)

pub named-named-requires-in-Arithmetic-2 : goal.named-named-requires-in-Arithmetic-2
named-named-requires-in-Arithmetic-2 g t c κs within = (right_lighter (weight (bound_expr_of c.deref-in-Arithmetic-2.result.now)) _ t c.decreases _ (ap weight (arithmetic_is c.args.condition.now c.in-Arithmetic.offset c.in-Arithmetic.left c.in-Arithmetic.right c.deref-in-Arithmetic.result.now c.deref-in-Arithmetic.ensures c.deref-in-Arithmetic-2.result.now c.deref-in-Arithmetic-2.ensures c.in-Arithmetic.operator c.in-Arithmetic.is)), within)

pub named-named-requires-in-Comparison : goal.named-named-requires-in-Comparison
named-named-requires-in-Comparison g t c κs within = (left_lighter (weight (bound_expr_of c.deref-in-Comparison.result.now)) _ t c.decreases _ (ap weight (comparison_is c.args.condition.now c.in-Comparison.offset c.in-Comparison.left c.in-Comparison.right c.deref-in-Comparison.result.now c.deref-in-Comparison.ensures c.in-Comparison.right.value refl c.in-Comparison.operator c.in-Comparison.is)), within)

pub named-named-requires-in-Comparison-2 : goal.named-named-requires-in-Comparison-2
named-named-requires-in-Comparison-2 g t c κs within = (right_lighter (weight (bound_expr_of c.deref-in-Comparison-2.result.now)) _ t c.decreases _ (ap weight (comparison_is c.args.condition.now c.in-Comparison.offset c.in-Comparison.left c.in-Comparison.right c.deref-in-Comparison.result.now c.deref-in-Comparison.ensures c.deref-in-Comparison-2.result.now c.deref-in-Comparison-2.ensures c.in-Comparison.operator c.in-Comparison.is)), within)

pub named-named-requires-in-Between : goal.named-named-requires-in-Between
named-named-requires-in-Between g t c κs within = (left_lighter (weight (bound_expr_of c.deref-in-Between.result.now)) _ t c.decreases _ (ap weight (between_is c.args.condition.now c.in-Between.negated c.in-Between.offset c.in-Between.operand c.in-Between.low c.in-Between.high c.in-Between.is c.deref-in-Between.result.now c.deref-in-Between.ensures c.in-Between.low.value refl c.in-Between.high.value refl)), within)

pub named-named-requires-in-Between-2 : goal.named-named-requires-in-Between-2
named-named-requires-in-Between-2 g t c κs within = (middle_lighter (weight (bound_expr_of c.deref-in-Between-2.result.now)) _ t c.decreases _ _ (ap weight (between_is c.args.condition.now c.in-Between.negated c.in-Between.offset c.in-Between.operand c.in-Between.low c.in-Between.high c.in-Between.is c.deref-in-Between.result.now c.deref-in-Between.ensures c.deref-in-Between-2.result.now c.deref-in-Between-2.ensures c.in-Between.high.value refl)), within)

pub named-named-requires-in-Between-3 : goal.named-named-requires-in-Between-3
named-named-requires-in-Between-3 g t c κs within = (last_lighter (weight (bound_expr_of c.deref-in-Between-3.result.now)) _ t c.decreases _ _ (ap weight (between_is c.args.condition.now c.in-Between.negated c.in-Between.offset c.in-Between.operand c.in-Between.low c.in-Between.high c.in-Between.is c.deref-in-Between.result.now c.deref-in-Between.ensures c.deref-in-Between-2.result.now c.deref-in-Between-2.ensures c.deref-in-Between-3.result.now c.deref-in-Between-3.ensures)), within)

pub named-named_members-requires : goal.named-named_members-requires
named-named_members-requires g t c κs within = let w = ap weight (and_is c.args.condition.now c.in-And.offset c.in-And.members c.deref-in-And.result.now c.deref-in-And.ensures.value c.in-And.is) in (omega (arith, c.decreases, w), within)

pub named-named_members-requires-in-Or : goal.named-named_members-requires-in-Or
named-named_members-requires-in-Or g t c κs within = let w = ap weight (or_is c.args.condition.now c.in-Or.offset c.in-Or.members c.deref-in-Or.result.now c.deref-in-Or.ensures.value c.in-Or.is) in (omega (arith, c.decreases, w), within)

pub named-named_arms-arms-requires : goal.named-named_arms-arms-requires
named-named_arms-arms-requires g t c κs within = let w = case_lighter c.args.condition.now c.in-Case.offset c.in-Case.arms c.deref-in-Case.result.now c.deref-in-Case.ensures.value c.in-Case.otherwise c.in-Case.is in (omega (arith, c.decreases, w), within)

pub named-named-value-requires : goal.named-named-value-requires
named-named-value-requires g t c κs within = let w = ap weight (case_some c.args.condition.now c.in-Case.offset c.in-Case.arms c.deref-in-Case.result.now c.deref-in-Case.ensures.value c.in-Case.otherwise c.in-Case.is c.in-Some.value c.in-Some.is) in let e = ap (λ e. weight (bound_expr_of e)) c.deref-in-Some.ensures in (omega (arith, c.decreases, w, e), within)
