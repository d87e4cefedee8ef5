use Rattle.std.proofs.Common.{◌≡◌, ◌∙◌, Bool, true, false, ◌&&◌, ap, sym, refl, arith, rules}
use Rattle.expr.specs.Weights.{weight}
use Rattle.std.proofs.lemmas.Grind.{common_steps}
use Rattle.expr.specs.Movable.{movable, all_movable, arms_movable}
use Rattle.expr.specs.View.{bound_expr_of}
use Rattle.expr.proofs.Walks.{and_is, or_is, case_is, case_none, case_some, case_lighter, exprs_step, exprs_lighter, exprs_still, exprs_over, when_lighter, result_lighter, arms_step, arms_still, arms_over, both_true}
use Rattle.expr.proofs.Operands.{between_is, comparison_is, in_is, is_null_is, not_is}
use Rattle.memory.proofs.Lighter.{last_lighter, left_lighter, lighter, middle_lighter, right_lighter}
use Rattle.expr.proofs.movable.+movable.Goals as goal

-- ---- the members that are left, after one

not_first : (one rest : Bool) → false ≡ one → false ≡ (one && rest)
not_first true rest p = cc
not_first false rest p = refl

not_second : (one other : Bool) → false ≡ other → false ≡ (one && other)
not_second true other p = p
not_second false other p = refl

one_true : (one rest all : Bool) → true ≡ one → all ≡ (one && rest) → rest ≡ all
one_true true rest all p q = sym q
one_true false rest all p q = cc

pub is_movable-are_movable-requires : goal.is_movable-are_movable-requires
is_movable-are_movable-requires g t c κs within = let w = ap weight (and_is c.args.expression.now c.in-And.offset c.in-And.members c.deref-in-And.result.now c.deref-in-And.ensures.value c.in-And.is) in (omega (arith, c.decreases, w), within)

pub is_movable-are_movable-requires-in-Or : goal.is_movable-are_movable-requires-in-Or
is_movable-are_movable-requires-in-Or g t c κs within = let w = ap weight (or_is c.args.expression.now c.in-Or.offset c.in-Or.members c.deref-in-Or.result.now c.deref-in-Or.ensures.value c.in-Or.is) in (omega (arith, c.decreases, w), within)

pub is_movable-are_arms_movable-requires : goal.is_movable-are_arms_movable-requires
is_movable-are_arms_movable-requires g t c κs within = let w = case_lighter c.args.expression.now c.in-Case.offset c.in-Case.arms c.deref-in-Case.result.now c.deref-in-Case.ensures.value c.in-Case.otherwise c.in-Case.is in (omega (arith, c.decreases, w), within)

pub is_movable-returns-in-And : goal.is_movable-returns-in-And
is_movable-returns-in-And g t c = rw (and_is c.args.expression.now c.in-And.offset c.in-And.members c.deref-in-And.result.now c.deref-in-And.ensures.value c.in-And.is) c.are_movable.ensures

pub is_movable-returns-in-Or : goal.is_movable-returns-in-Or
is_movable-returns-in-Or g t c = rw (or_is c.args.expression.now c.in-Or.offset c.in-Or.members c.deref-in-Or.result.now c.deref-in-Or.ensures.value c.in-Or.is) c.are_movable-in-Or.ensures

pub is_movable-returns-then-not-are_arms_movable : goal.is_movable-returns-then-not-are_arms_movable
is_movable-returns-then-not-are_arms_movable g t c =
    let h = ap movable (case_is c.args.expression.now c.in-Case.offset c.in-Case.arms c.deref-in-Case.result.now c.deref-in-Case.ensures.value c.in-Case.otherwise c.in-Case.is) in grind (arith, common_steps)

pub is_movable-returns-in-Some : goal.is_movable-returns-in-Some
is_movable-returns-in-Some g t c =
    let h = ap movable (case_some c.args.expression.now c.in-Case.offset c.in-Case.arms c.deref-in-Case.result.now c.deref-in-Case.ensures.value c.in-Case.otherwise c.in-Case.is c.in-Some.value c.in-Some.is) in search rules

pub is_movable-returns-in-None : goal.is_movable-returns-in-None
is_movable-returns-in-None g t c =
    let h = ap movable (case_none c.args.expression.now c.in-Case.offset c.in-Case.arms c.deref-in-Case.result.now c.deref-in-Case.ensures.value c.in-Case.otherwise c.in-Case.is c.in-None.is) in search rules

pub are_arms_movable-loop-arm-preserved : goal.are_arms_movable-loop-arm-preserved
are_arms_movable-loop-arm-preserved g t c = record {
  rest = both_true _ _ _ _ c.if-not-is_movable.ensures c.if-not-is_movable-2.ensures (ap arms_movable (arms_step c.args.arms.now c.loop-arm.arm-index c.arm-item.result c.loop-arm-test.true c.arm-item.is)) ∙ c.loop-arm.invariant.rest;
  lighter = arms_still c.args.arms.now c.loop-arm.arm-index c.arm-item.result c.loop-arm-test.true c.arm-item.is c.loop-arm.invariant.lighter;
}

pub is_movable-is_movable-requires : goal.is_movable-is_movable-requires
is_movable-is_movable-requires g t c κs within = (left_lighter (weight (bound_expr_of c.deref.result.now)) _ t c.decreases _ (ap weight (comparison_is c.args.expression.now c.in-Comparison.offset c.in-Comparison.left c.in-Comparison.right c.deref.result.now c.deref.ensures c.in-Comparison.right.value refl c.in-Comparison.operator c.in-Comparison.is)), within)

pub is_movable-is_movable-requires-then-is_movable : goal.is_movable-is_movable-requires-then-is_movable
is_movable-is_movable-requires-then-is_movable g t c κs within = (right_lighter (weight (bound_expr_of c.deref-then-is_movable.result.now)) _ t c.decreases _ (ap weight (comparison_is c.args.expression.now c.in-Comparison.offset c.in-Comparison.left c.in-Comparison.right c.in-Comparison.left.value refl c.deref-then-is_movable.result.now c.deref-then-is_movable.ensures c.in-Comparison.operator c.in-Comparison.is)), within)

pub is_movable-is_movable-requires-in-Between : goal.is_movable-is_movable-requires-in-Between
is_movable-is_movable-requires-in-Between g t c κs within = (left_lighter (weight (bound_expr_of c.deref-in-Between.result.now)) _ t c.decreases _ (ap weight (between_is c.args.expression.now c.in-Between.negated c.in-Between.offset c.in-Between.operand c.in-Between.low c.in-Between.high c.in-Between.is c.deref-in-Between.result.now c.deref-in-Between.ensures c.in-Between.low.value refl c.in-Between.high.value refl)), within)

pub is_movable-is_movable-requires-then-is_movable-2 : goal.is_movable-is_movable-requires-then-is_movable-2
is_movable-is_movable-requires-then-is_movable-2 g t c κs within = (middle_lighter (weight (bound_expr_of c.deref-then-is_movable-2.result.now)) _ t c.decreases _ _ (ap weight (between_is c.args.expression.now c.in-Between.negated c.in-Between.offset c.in-Between.operand c.in-Between.low c.in-Between.high c.in-Between.is c.in-Between.operand.value refl c.deref-then-is_movable-2.result.now c.deref-then-is_movable-2.ensures c.in-Between.high.value refl)), within)

pub is_movable-is_movable-requires-then-is_movable-3 : goal.is_movable-is_movable-requires-then-is_movable-3
is_movable-is_movable-requires-then-is_movable-3 g t c κs within = (last_lighter (weight (bound_expr_of c.deref-then-is_movable-3.result.now)) _ t c.decreases _ _ (ap weight (between_is c.args.expression.now c.in-Between.negated c.in-Between.offset c.in-Between.operand c.in-Between.low c.in-Between.high c.in-Between.is c.in-Between.operand.value refl c.in-Between.low.value refl c.deref-then-is_movable-3.result.now c.deref-then-is_movable-3.ensures)), within)

pub is_movable-is_movable-requires-in-In : goal.is_movable-is_movable-requires-in-In
is_movable-is_movable-requires-in-In g t c κs within = (lighter (weight (bound_expr_of c.deref-in-In.result.now)) _ t c.decreases (ap weight (in_is c.args.expression.now c.in-In.negated c.in-In.offset c.in-In.values c.in-In.operand c.in-In.is c.deref-in-In.result.now c.deref-in-In.ensures)), within)

pub is_movable-is_movable-requires-in-IsNull : goal.is_movable-is_movable-requires-in-IsNull
is_movable-is_movable-requires-in-IsNull g t c κs within = (lighter (weight (bound_expr_of c.deref-in-IsNull.result.now)) _ t c.decreases (ap weight (is_null_is c.args.expression.now c.in-IsNull.offset c.in-IsNull.operand c.deref-in-IsNull.result.now c.deref-in-IsNull.ensures c.in-IsNull.negated c.in-IsNull.is)), within)

pub is_movable-is_movable-requires-in-Not : goal.is_movable-is_movable-requires-in-Not
is_movable-is_movable-requires-in-Not g t c κs within = (lighter (weight (bound_expr_of c.deref-in-Not.result.now)) _ t c.decreases (ap weight (not_is c.args.expression.now c.in-Not.offset c.in-Not.operand c.deref-in-Not.result.now c.deref-in-Not.ensures c.in-Not.is)), within)

pub is_movable-returns-in-In : goal.is_movable-returns-in-In
is_movable-returns-in-In g t c = c.is_movable-in-In.ensures ∙ ap (λ e. movable (bound_expr_of e)) c.deref-in-In.ensures ∙ sym (ap movable (ap bound_expr_of c.in-In.is))

pub is_movable-returns-in-IsNull : goal.is_movable-returns-in-IsNull
is_movable-returns-in-IsNull g t c = c.is_movable-in-IsNull.ensures ∙ ap (λ e. movable (bound_expr_of e)) c.deref-in-IsNull.ensures ∙ sym (ap movable (ap bound_expr_of c.in-IsNull.is))

pub is_movable-returns-in-Not : goal.is_movable-returns-in-Not
is_movable-returns-in-Not g t c = c.is_movable-in-Not.ensures ∙ ap (λ e. movable (bound_expr_of e)) c.deref-in-Not.ensures ∙ sym (ap movable (ap bound_expr_of c.in-Not.is))

pub is_movable-returns-then-is_movable-3 : goal.is_movable-returns-then-is_movable-3
is_movable-returns-then-is_movable-3 g t c = let w = ap movable (ap bound_expr_of c.in-Between.is) in search rules

pub is_movable-returns-else-is_movable-3 : goal.is_movable-returns-else-is_movable-3
is_movable-returns-else-is_movable-3 g t c = let w = ap movable (ap bound_expr_of c.in-Between.is) in search rules

pub is_movable-returns-then-is_movable : goal.is_movable-returns-then-is_movable
is_movable-returns-then-is_movable g t c = let w = ap movable (ap bound_expr_of c.in-Comparison.is) in search rules

pub is_movable-returns-else-is_movable : goal.is_movable-returns-else-is_movable
is_movable-returns-else-is_movable g t c = let w = ap movable (ap bound_expr_of c.in-Comparison.is) in search rules

pub is_movable-is_movable-requires-in-Some : goal.is_movable-is_movable-requires-in-Some
is_movable-is_movable-requires-in-Some g t c κs within = let w = ap weight (case_some c.args.expression.now c.in-Case.offset c.in-Case.arms c.deref-in-Case.result.now c.deref-in-Case.ensures.value c.in-Case.otherwise c.in-Case.is c.in-Some.value c.in-Some.is) in let e = ap (λ e. weight (bound_expr_of e)) c.deref-in-Some.ensures in (omega (arith, c.decreases, w, e), within)

pub are_movable-loop-member-preserved : goal.are_movable-loop-member-preserved
are_movable-loop-member-preserved g t c = record {
  rest = one_true _ _ _ c.if-not-is_movable.ensures (ap all_movable (exprs_step c.args.members.now c.loop-member.member-index c.member-item.result c.loop-member-test.true c.member-item.is)) ∙ c.loop-member.invariant.rest;
  lighter = exprs_still c.args.members.now c.loop-member.member-index c.member-item.result c.loop-member-test.true c.member-item.is c.loop-member.invariant.lighter;
}

pub are_movable-loop-member-smaller : goal.are_movable-loop-member-smaller
are_movable-loop-member-smaller g t c = omega (arith, c.loop-member-test.true)

pub are_movable-returns-then-not-is_movable : goal.are_movable-returns-then-not-is_movable
are_movable-returns-then-not-is_movable g t c = not_first _ _ (sym c.if-not-is_movable.true ∙ c.is_movable.ensures) ∙ sym (ap all_movable (exprs_step c.args.members.now c.loop-member.member-index c.member-item.result c.loop-member-test.true c.member-item.is)) ∙ c.loop-member.invariant.rest

pub are_movable-returns : goal.are_movable-returns
are_movable-returns g t c = sym (ap all_movable (exprs_over c.args.members.now c.loop-member.member-index (omega (arith, c.loop-member-test.false)))) ∙ c.loop-member.invariant.rest

pub are_arms_movable-loop-arm-smaller : goal.are_arms_movable-loop-arm-smaller
are_arms_movable-loop-arm-smaller g t c = omega (arith, c.loop-arm-test.true)

pub are_arms_movable-returns-then-not-is_movable : goal.are_arms_movable-returns-then-not-is_movable
are_arms_movable-returns-then-not-is_movable g t c = not_first _ _ (not_first _ _ (sym c.if-not-is_movable.true ∙ c.is_movable.ensures)) ∙ sym (ap arms_movable (arms_step c.args.arms.now c.loop-arm.arm-index c.arm-item.result c.loop-arm-test.true c.arm-item.is)) ∙ c.loop-arm.invariant.rest

pub are_arms_movable-returns-then-not-is_movable-2 : goal.are_arms_movable-returns-then-not-is_movable-2
are_arms_movable-returns-then-not-is_movable-2 g t c = not_first _ _ (not_second _ _ (sym c.if-not-is_movable-2.true ∙ c.is_movable-in-loop-arm.ensures)) ∙ sym (ap arms_movable (arms_step c.args.arms.now c.loop-arm.arm-index c.arm-item.result c.loop-arm-test.true c.arm-item.is)) ∙ c.loop-arm.invariant.rest

pub are_arms_movable-returns : goal.are_arms_movable-returns
are_arms_movable-returns g t c = sym (ap arms_movable (arms_over c.args.arms.now c.loop-arm.arm-index (omega (arith, c.loop-arm-test.false)))) ∙ c.loop-arm.invariant.rest

pub are_movable-is_movable-requires : goal.are_movable-is_movable-requires
are_movable-is_movable-requires g t c κs within = let w = exprs_lighter c.args.members.now c.loop-member.member-index c.member-item.result c.loop-member-test.true c.member-item.is c.loop-member.invariant.lighter in (omega (arith, c.decreases, w), within)

pub are_arms_movable-is_movable-requires : goal.are_arms_movable-is_movable-requires
are_arms_movable-is_movable-requires g t c κs within = let w = when_lighter c.args.arms.now c.loop-arm.arm-index c.arm-item.result c.loop-arm-test.true c.arm-item.is c.loop-arm.invariant.lighter in (omega (arith, c.decreases, w), within)

pub are_arms_movable-is_movable-requires-in-loop-arm : goal.are_arms_movable-is_movable-requires-in-loop-arm
are_arms_movable-is_movable-requires-in-loop-arm g t c κs within = let w = result_lighter c.args.arms.now c.loop-arm.arm-index c.arm-item.result c.loop-arm-test.true c.arm-item.is c.loop-arm.invariant.lighter in (omega (arith, c.decreases, w), within)
