use borrow.Author.Count.{falls}
use Rattle.std.proofs.Common.{length, Ok, refl, sym, ap, ◌∙◌, rules, arith}
use Rattle.std.proofs.Math.Nat.{le_refl}
use denote.Enum.Bare.{same_false}
use Rattle.value.specs.Datum.{datum_of}
use Rattle.value.specs.declared.order.Truth.TheVariants.{False, True}
use Rattle.value.specs.declared.types.Val.{Val}
use Rattle.std.specs.declared.borrow.CowStr.{CowStr}
use Rattle.value.specs.contracts.order.Truth.{the_type}
use Rattle.expr.specs.View.{bound_expr_of, bound_exprs, bound_arms, otherwise_of}
use Rattle.eval.specs.Meaning.{meaning, conjunction, disjunction, otherwise}
use Rattle.expr.specs.Weights.{weight, all_weight, arms_weight}
use Rattle.expr.proofs.Operands.{negate_is, in_is, is_null_is, not_is, cast_is, arithmetic_is, comparison_is, between_is}
use Rattle.memory.proofs.Lighter.{lighter, left_lighter, right_lighter, middle_lighter, last_lighter}
use Rattle.expr.proofs.Walks.{case_is, and_is, or_is, exprs_lighter, exprs_still, when_lighter, result_lighter, arms_still}
use Rattle.eval.proofs.Conditions.{and_open, or_open, and_start, or_start, and_over, and_fails, and_ends, and_goes_on, or_over, or_fails, or_ends, or_goes_on, case_over, when_fails, case_gives, case_goes_on, by_arms, else_value, else_null, same}
use Rattle.memory.proofs.Cases.{exits}
use Rattle.eval.specs.Memory.{is_no_text, takes_no_memory}
use Rattle.eval.proofs.Movables.{and_left, and_right}
use Rattle.eval.proofs.Memory.{member_takes_none, rest_takes_none, when_takes_none, result_takes_none, arms_left_take_none, arms_take_none, otherwise_takes_none, else_takes_none, exits_safe, ok_safe, no_text}
use Rattle.eval.proofs.Measures.{doubled, case_below, arm_below, else_below, else_weight}
use Rattle.eval.proofs.Operands.{aggregate_is, member_of, arithmetic_known, comparison_known, arithmetic_fails, comparison_fails, between_fails, between_low_fails, between_known, operand_takes_none, low_takes_none, high_takes_none}
use base.Fml.{Lft}
use contract.BorrowLft.{◌⊑◌}
use denote.RattleType.{RattleType}
use borrow.Author.Rules.{in_lives}
use Rattle.std.specs.declared.alloc.Allocator as alloc
use Rattle.expr.specs.contracts.bound.BoundExpr as row
use Rattle.expr.specs.contracts.bound.BoundArm as arm
use Rattle.eval.proofs.evaluating.+eval.Goals as goal

-- ---- a lifetime within all that an allocator lives for is within all that an expression in its memory lives for

expr_lives : (A : RattleType) (alloc : alloc.Ghosts A.Denot) (κ : Lft) → κ ⊑ A.lives → κ ⊑ (row.the_row A alloc).lives
expr_lives A alloc κ h = simp (in_lives, h) (search rules)

arm_lives : (A : RattleType) (alloc : alloc.Ghosts A.Denot) (κ : Lft) → κ ⊑ A.lives → κ ⊑ (arm.the_row A alloc).lives
arm_lives A alloc κ h = simp (in_lives, h) (search rules)

-- ---- AND

pub conjunction-returns-in_err-condition-clause-value : goal.conjunction-returns-in_err-condition-clause-value
conjunction-returns-in_err-condition-clause-value g t c =
    exits (λ t. t) c.from_residual.result c.in_err-condition.field-0.0 _ c.from_residual.ensures.1
    (and_fails (g.R.Row.cells c.args.row.now) c.args.role.now.name.now c.args.members.now c.loop-member.member-index c.loop-member.known c.loop-member.invariant.rest c.member-item.result c.loop-member-test.true c.member-item.is c.in_err-condition.field-0.0 (c.in_err-condition.ensures.value (meaning (g.R.Row.cells c.args.row.now) c.args.role.now.name.now (bound_expr_of c.member-item.result)) c.evaluate.ensures.value))

pub conjunction-returns-then-eq-clause-value : goal.conjunction-returns-then-eq-clause-value
conjunction-returns-then-eq-clause-value g t c =
    and_ends (g.R.Row.cells c.args.row.now) c.args.role.now.name.now c.args.members.now c.loop-member.member-index c.loop-member.known c.loop-member.invariant.rest c.member-item.result c.loop-member-test.true c.member-item.is
    c.in_ok-condition.field-0 c.and3-known.result (c.in_ok-condition.ensures.value (meaning (g.R.Row.cells c.args.row.now) c.args.role.now.name.now (bound_expr_of c.member-item.result)) c.evaluate.ensures.value) c.and3-known.ensures c.loop-member.invariant.open_yet (same c.and3-known.result False (sym c.if-eq.ensures))

pub conjunction-loop-member-preserved : goal.conjunction-loop-member-preserved
conjunction-loop-member-preserved g t c = let o = same_false the_type c.and3-known.result False (sym c.if-eq.ensures) in record {
  open_yet = o;
  rest = and_goes_on (g.R.Row.cells c.args.row.now) c.args.role.now.name.now c.args.members.now c.loop-member.member-index c.loop-member.known c.loop-member.invariant.rest c.member-item.result c.loop-member-test.true c.member-item.is c.in_ok-condition.field-0 c.and3-known.result (c.in_ok-condition.ensures.value (meaning (g.R.Row.cells c.args.row.now) c.args.role.now.name.now (bound_expr_of c.member-item.result)) c.evaluate.ensures.value) c.and3-known.ensures o;
  memory = λ p. rest_takes_none c.args.members.now c.loop-member.member-index c.member-item.result c.loop-member-test.true c.member-item.is (c.loop-member.invariant.memory p);
  lighter = exprs_still c.args.members.now c.loop-member.member-index c.member-item.result c.loop-member-test.true c.member-item.is c.loop-member.invariant.lighter;
}

pub conjunction-returns-clause-value : goal.conjunction-returns-clause-value
conjunction-returns-clause-value g t c = and_over (g.R.Row.cells c.args.row.now) c.args.role.now.name.now c.args.members.now c.loop-member.member-index c.loop-member.known c.loop-member.invariant.rest (omega (arith, c.loop-member-test.false))

-- ---- OR

pub disjunction-returns-in_err-condition-clause-value : goal.disjunction-returns-in_err-condition-clause-value
disjunction-returns-in_err-condition-clause-value g t c =
    exits (λ t. t) c.from_residual.result c.in_err-condition.field-0.0 _ c.from_residual.ensures.1
    (or_fails (g.R.Row.cells c.args.row.now) c.args.role.now.name.now c.args.members.now c.loop-member.member-index c.loop-member.known c.loop-member.invariant.rest c.member-item.result c.loop-member-test.true c.member-item.is c.in_err-condition.field-0.0 (c.in_err-condition.ensures.value (meaning (g.R.Row.cells c.args.row.now) c.args.role.now.name.now (bound_expr_of c.member-item.result)) c.evaluate.ensures.value))

pub disjunction-returns-then-eq-clause-value : goal.disjunction-returns-then-eq-clause-value
disjunction-returns-then-eq-clause-value g t c =
    or_ends (g.R.Row.cells c.args.row.now) c.args.role.now.name.now c.args.members.now c.loop-member.member-index c.loop-member.known c.loop-member.invariant.rest c.member-item.result c.loop-member-test.true c.member-item.is
    c.in_ok-condition.field-0 c.or3-known.result (c.in_ok-condition.ensures.value (meaning (g.R.Row.cells c.args.row.now) c.args.role.now.name.now (bound_expr_of c.member-item.result)) c.evaluate.ensures.value) c.or3-known.ensures c.loop-member.invariant.open_yet (same c.or3-known.result True (sym c.if-eq.ensures))

pub disjunction-loop-member-preserved : goal.disjunction-loop-member-preserved
disjunction-loop-member-preserved g t c = let o = same_false the_type c.or3-known.result True (sym c.if-eq.ensures) in record {
  open_yet = o;
  rest = or_goes_on (g.R.Row.cells c.args.row.now) c.args.role.now.name.now c.args.members.now c.loop-member.member-index c.loop-member.known c.loop-member.invariant.rest c.member-item.result c.loop-member-test.true c.member-item.is c.in_ok-condition.field-0 c.or3-known.result (c.in_ok-condition.ensures.value (meaning (g.R.Row.cells c.args.row.now) c.args.role.now.name.now (bound_expr_of c.member-item.result)) c.evaluate.ensures.value) c.or3-known.ensures o;
  memory = λ p. rest_takes_none c.args.members.now c.loop-member.member-index c.member-item.result c.loop-member-test.true c.member-item.is (c.loop-member.invariant.memory p);
  lighter = exprs_still c.args.members.now c.loop-member.member-index c.member-item.result c.loop-member-test.true c.member-item.is c.loop-member.invariant.lighter;
}

pub disjunction-returns-clause-value : goal.disjunction-returns-clause-value
disjunction-returns-clause-value g t c = or_over (g.R.Row.cells c.args.row.now) c.args.role.now.name.now c.args.members.now c.loop-member.member-index c.loop-member.known c.loop-member.invariant.rest (omega (arith, c.loop-member-test.false))

-- ---- the arms of CASE

pub chosen-returns-in_err-condition-clause-value : goal.chosen-returns-in_err-condition-clause-value
chosen-returns-in_err-condition-clause-value g t c =
    exits (datum_of {A = g.row.A.Denot}) c.from_residual.result c.in_err-condition.field-0.0 _ c.from_residual.ensures.1
    (when_fails (g.R.Row.cells c.args.row.now) c.args.role.now.name.now c.args.arms.now c.loop-arm.arm-index (otherwise (g.R.Row.cells c.args.row.now) c.args.role.now.name.now (otherwise_of c.args.otherwise.now)) c.loop-arm.invariant.rest c.arm-item.result c.loop-arm-test.true c.arm-item.is c.in_err-condition.field-0.0 (c.in_err-condition.ensures.value (meaning (g.R.Row.cells c.args.row.now) c.args.role.now.name.now (bound_expr_of c.arm-item.result.when)) c.evaluate.ensures.value))

pub chosen-returns-then-eq-clause-value : goal.chosen-returns-then-eq-clause-value
chosen-returns-then-eq-clause-value g t c = rw (case_gives (g.R.Row.cells c.args.row.now) c.args.role.now.name.now c.args.arms.now c.loop-arm.arm-index (otherwise (g.R.Row.cells c.args.row.now) c.args.role.now.name.now (otherwise_of c.args.otherwise.now)) c.loop-arm.invariant.rest c.arm-item.result c.loop-arm-test.true c.arm-item.is c.in_ok-condition.field-0 (c.in_ok-condition.ensures.value (meaning (g.R.Row.cells c.args.row.now) c.args.role.now.name.now (bound_expr_of c.arm-item.result.when)) c.evaluate.ensures.value) (same c.in_ok-condition.field-0 True (sym c.if-eq.ensures))) c.evaluate-then-eq.ensures.value

pub chosen-loop-arm-preserved : goal.chosen-loop-arm-preserved
chosen-loop-arm-preserved g t c = record {
  rest = case_goes_on (g.R.Row.cells c.args.row.now) c.args.role.now.name.now c.args.arms.now c.loop-arm.arm-index (otherwise (g.R.Row.cells c.args.row.now) c.args.role.now.name.now (otherwise_of c.args.otherwise.now)) c.loop-arm.invariant.rest c.arm-item.result c.loop-arm-test.true c.arm-item.is c.in_ok-condition.field-0 (c.in_ok-condition.ensures.value (meaning (g.R.Row.cells c.args.row.now) c.args.role.now.name.now (bound_expr_of c.arm-item.result.when)) c.evaluate.ensures.value) (same_false the_type c.in_ok-condition.field-0 True (sym c.if-eq.ensures));
  memory = λ p. arms_left_take_none c.args.arms.now c.loop-arm.arm-index c.arm-item.result c.loop-arm-test.true c.arm-item.is (c.loop-arm.invariant.memory p);
  lighter = arms_still c.args.arms.now c.loop-arm.arm-index c.arm-item.result c.loop-arm-test.true c.arm-item.is c.loop-arm.invariant.lighter;
}

-- ---- nodes with members

pub evaluate-returns-in-And-clause-value : goal.evaluate-returns-in-And-clause-value
evaluate-returns-in-And-clause-value g t c = rw (and_is c.args.expression.now c.in-And.offset c.in-And.members c.deref-in-And.result.now c.deref-in-And.ensures.value c.in-And.is) (c.as_value.ensures.value _ c.conjunction.ensures.value)

pub evaluate-returns-in-Or-clause-value : goal.evaluate-returns-in-Or-clause-value
evaluate-returns-in-Or-clause-value g t c = rw (or_is c.args.expression.now c.in-Or.offset c.in-Or.members c.deref-in-Or.result.now c.deref-in-Or.ensures.value c.in-Or.is) (c.as_value-in-Or.ensures.value _ c.disjunction.ensures.value)

-- ---- no memory

pub conjunction-returns-in_err-condition-clause-memory : goal.conjunction-returns-in_err-condition-clause-memory
conjunction-returns-in_err-condition-clause-memory g t c = λ p.
    exits_safe c.from_residual.result c.in_err-condition.field-0.0 c.from_residual.ensures.1
    (c.in_err-condition.ensures.memory (c.evaluate.ensures.memory (member_takes_none c.args.members.now c.loop-member.member-index c.member-item.result c.loop-member-test.true c.member-item.is (c.loop-member.invariant.memory p))))

pub disjunction-returns-in_err-condition-clause-memory : goal.disjunction-returns-in_err-condition-clause-memory
disjunction-returns-in_err-condition-clause-memory g t c = λ p.
    exits_safe c.from_residual.result c.in_err-condition.field-0.0 c.from_residual.ensures.1
    (c.in_err-condition.ensures.memory (c.evaluate.ensures.memory (member_takes_none c.args.members.now c.loop-member.member-index c.member-item.result c.loop-member-test.true c.member-item.is (c.loop-member.invariant.memory p))))

pub chosen-returns-in_err-condition-clause-memory : goal.chosen-returns-in_err-condition-clause-memory
chosen-returns-in_err-condition-clause-memory g t c = λ p o.
    exits_safe c.from_residual.result c.in_err-condition.field-0.0 c.from_residual.ensures.1
    (c.in_err-condition.ensures.memory (c.evaluate.ensures.memory (when_takes_none c.args.arms.now c.loop-arm.arm-index c.arm-item.result c.loop-arm-test.true c.arm-item.is (c.loop-arm.invariant.memory p))))

pub evaluate-returns-in-And-clause-memory : goal.evaluate-returns-in-And-clause-memory
evaluate-returns-in-And-clause-memory g t c = λ p.
    c.as_value.ensures.memory (c.conjunction.ensures.memory (rw (and_is c.args.expression.now c.in-And.offset c.in-And.members c.deref-in-And.result.now c.deref-in-And.ensures.value c.in-And.is) at p))

pub evaluate-returns-in-Or-clause-memory : goal.evaluate-returns-in-Or-clause-memory
evaluate-returns-in-Or-clause-memory g t c = λ p.
    c.as_value-in-Or.ensures.memory (c.disjunction.ensures.memory (rw (or_is c.args.expression.now c.in-Or.offset c.in-Or.members c.deref-in-Or.result.now c.deref-in-Or.ensures.value c.in-Or.is) at p))

-- ---- each call is on less

pub evaluate-conjunction-requires : goal.evaluate-conjunction-requires
evaluate-conjunction-requires g t c κs within = (doubled (all_weight (bound_exprs c.deref-in-And.result.now)) (weight (bound_expr_of c.args.expression.now)) t c.decreases (lighter (all_weight (bound_exprs c.deref-in-And.result.now)) (weight (bound_expr_of c.args.expression.now)) (weight (bound_expr_of c.args.expression.now)) refl (ap weight (and_is c.args.expression.now c.in-And.offset c.in-And.members c.deref-in-And.result.now c.deref-in-And.ensures.value c.in-And.is))), within)

pub evaluate-disjunction-requires : goal.evaluate-disjunction-requires
evaluate-disjunction-requires g t c κs within = (doubled (all_weight (bound_exprs c.deref-in-Or.result.now)) (weight (bound_expr_of c.args.expression.now)) t c.decreases (lighter (all_weight (bound_exprs c.deref-in-Or.result.now)) (weight (bound_expr_of c.args.expression.now)) (weight (bound_expr_of c.args.expression.now)) refl (ap weight (or_is c.args.expression.now c.in-Or.offset c.in-Or.members c.deref-in-Or.result.now c.deref-in-Or.ensures.value c.in-Or.is))), within)

pub evaluate-chosen-requires : goal.evaluate-chosen-requires
evaluate-chosen-requires g t c κs within = (case_below (bound_arms c.deref-in-Case.result.now) (otherwise_of c.in-Case.otherwise) t (weight (bound_expr_of c.args.expression.now)) c.decreases (ap weight (case_is c.args.expression.now c.in-Case.offset c.in-Case.arms c.deref-in-Case.result.now c.deref-in-Case.ensures.value c.in-Case.otherwise c.in-Case.is)), within)

pub conjunction-evaluate-requires : goal.conjunction-evaluate-requires
conjunction-evaluate-requires g t c κs within = (doubled (weight (bound_expr_of c.member-item.result)) (all_weight (bound_exprs c.args.members.now)) t c.decreases (exprs_lighter c.args.members.now c.loop-member.member-index c.member-item.result c.loop-member-test.true c.member-item.is c.loop-member.invariant.lighter), within)

pub disjunction-evaluate-requires : goal.disjunction-evaluate-requires
disjunction-evaluate-requires g t c κs within = (doubled (weight (bound_expr_of c.member-item.result)) (all_weight (bound_exprs c.args.members.now)) t c.decreases (exprs_lighter c.args.members.now c.loop-member.member-index c.member-item.result c.loop-member-test.true c.member-item.is c.loop-member.invariant.lighter), within)

pub conjunction-loop-member-init : goal.conjunction-loop-member-init
conjunction-loop-member-init g t c = record {
  open_yet = and_open;
  rest = and_start (conjunction (g.R.Row.cells c.args.row.now) c.args.role.now.name.now (bound_exprs c.args.members.now));
  memory = λ p. p;
  lighter = le_refl (all_weight (bound_exprs c.args.members.now));
}

pub disjunction-loop-member-init : goal.disjunction-loop-member-init
disjunction-loop-member-init g t c = record {
  open_yet = or_open;
  rest = or_start (disjunction (g.R.Row.cells c.args.row.now) c.args.role.now.name.now (bound_exprs c.args.members.now));
  memory = λ p. p;
  lighter = le_refl (all_weight (bound_exprs c.args.members.now));
}

pub evaluate-evaluate-requires : goal.evaluate-evaluate-requires
evaluate-evaluate-requires g t c κs within = (doubled (weight (bound_expr_of c.deref.result.now)) (weight (bound_expr_of c.args.expression.now)) t c.decreases (lighter (weight (bound_expr_of c.deref.result.now)) (weight (bound_expr_of c.args.expression.now)) (weight (bound_expr_of c.args.expression.now)) refl (ap weight (negate_is c.args.expression.now c.in-Negate.offset c.in-Negate.operand c.deref.result.now c.deref.ensures c.in-Negate.is))), within)

pub evaluate-evaluate-requires-in-Arithmetic : goal.evaluate-evaluate-requires-in-Arithmetic
evaluate-evaluate-requires-in-Arithmetic g t c κs within = (doubled (weight (bound_expr_of c.deref-in-Arithmetic.result.now)) (weight (bound_expr_of c.args.expression.now)) t c.decreases (left_lighter (weight (bound_expr_of c.deref-in-Arithmetic.result.now)) (weight (bound_expr_of c.args.expression.now)) (weight (bound_expr_of c.args.expression.now)) refl _ (ap weight (arithmetic_is c.args.expression.now c.in-Arithmetic.offset c.in-Arithmetic.left c.in-Arithmetic.right c.deref-in-Arithmetic.result.now c.deref-in-Arithmetic.ensures c.in-Arithmetic.right.value refl c.in-Arithmetic.operator c.in-Arithmetic.is))), within)

pub evaluate-evaluate-requires-in-Arithmetic-2 : goal.evaluate-evaluate-requires-in-Arithmetic-2
evaluate-evaluate-requires-in-Arithmetic-2 g t c κs within = (doubled (weight (bound_expr_of c.deref-in-Arithmetic-2.result.now)) (weight (bound_expr_of c.args.expression.now)) t c.decreases (right_lighter (weight (bound_expr_of c.deref-in-Arithmetic-2.result.now)) (weight (bound_expr_of c.args.expression.now)) (weight (bound_expr_of c.args.expression.now)) refl _ (ap weight (arithmetic_is c.args.expression.now c.in-Arithmetic.offset c.in-Arithmetic.left c.in-Arithmetic.right c.in-Arithmetic.left.value refl c.deref-in-Arithmetic-2.result.now c.deref-in-Arithmetic-2.ensures c.in-Arithmetic.operator c.in-Arithmetic.is))), within)

pub evaluate-evaluate-requires-in-Comparison : goal.evaluate-evaluate-requires-in-Comparison
evaluate-evaluate-requires-in-Comparison g t c κs within = (doubled (weight (bound_expr_of c.deref-in-Comparison.result.now)) (weight (bound_expr_of c.args.expression.now)) t c.decreases (left_lighter (weight (bound_expr_of c.deref-in-Comparison.result.now)) (weight (bound_expr_of c.args.expression.now)) (weight (bound_expr_of c.args.expression.now)) refl _ (ap weight (comparison_is c.args.expression.now c.in-Comparison.offset c.in-Comparison.left c.in-Comparison.right c.deref-in-Comparison.result.now c.deref-in-Comparison.ensures c.in-Comparison.right.value refl c.in-Comparison.operator c.in-Comparison.is))), within)

pub evaluate-evaluate-requires-in-Comparison-2 : goal.evaluate-evaluate-requires-in-Comparison-2
evaluate-evaluate-requires-in-Comparison-2 g t c κs within = (doubled (weight (bound_expr_of c.deref-in-Comparison-2.result.now)) (weight (bound_expr_of c.args.expression.now)) t c.decreases (right_lighter (weight (bound_expr_of c.deref-in-Comparison-2.result.now)) (weight (bound_expr_of c.args.expression.now)) (weight (bound_expr_of c.args.expression.now)) refl _ (ap weight (comparison_is c.args.expression.now c.in-Comparison.offset c.in-Comparison.left c.in-Comparison.right c.in-Comparison.left.value refl c.deref-in-Comparison-2.result.now c.deref-in-Comparison-2.ensures c.in-Comparison.operator c.in-Comparison.is))), within)

pub evaluate-evaluate-requires-in-Between : goal.evaluate-evaluate-requires-in-Between
evaluate-evaluate-requires-in-Between g t c κs within = (doubled (weight (bound_expr_of c.deref-in-Between.result.now)) (weight (bound_expr_of c.args.expression.now)) t c.decreases (left_lighter (weight (bound_expr_of c.deref-in-Between.result.now)) (weight (bound_expr_of c.args.expression.now)) (weight (bound_expr_of c.args.expression.now)) refl _ (ap weight (between_is c.args.expression.now c.in-Between.negated c.in-Between.offset c.in-Between.operand c.in-Between.low c.in-Between.high c.in-Between.is c.deref-in-Between.result.now c.deref-in-Between.ensures c.in-Between.low.value refl c.in-Between.high.value refl))), within)

pub evaluate-evaluate-requires-in-Between-2 : goal.evaluate-evaluate-requires-in-Between-2
evaluate-evaluate-requires-in-Between-2 g t c κs within = (doubled (weight (bound_expr_of c.deref-in-Between-2.result.now)) (weight (bound_expr_of c.args.expression.now)) t c.decreases (middle_lighter (weight (bound_expr_of c.deref-in-Between-2.result.now)) (weight (bound_expr_of c.args.expression.now)) (weight (bound_expr_of c.args.expression.now)) refl _ _ (ap weight (between_is c.args.expression.now c.in-Between.negated c.in-Between.offset c.in-Between.operand c.in-Between.low c.in-Between.high c.in-Between.is c.in-Between.operand.value refl c.deref-in-Between-2.result.now c.deref-in-Between-2.ensures c.in-Between.high.value refl))), within)

pub evaluate-evaluate-requires-in-Between-3 : goal.evaluate-evaluate-requires-in-Between-3
evaluate-evaluate-requires-in-Between-3 g t c κs within = (doubled (weight (bound_expr_of c.deref-in-Between-3.result.now)) (weight (bound_expr_of c.args.expression.now)) t c.decreases (last_lighter (weight (bound_expr_of c.deref-in-Between-3.result.now)) (weight (bound_expr_of c.args.expression.now)) (weight (bound_expr_of c.args.expression.now)) refl _ _ (ap weight (between_is c.args.expression.now c.in-Between.negated c.in-Between.offset c.in-Between.operand c.in-Between.low c.in-Between.high c.in-Between.is c.in-Between.operand.value refl c.in-Between.low.value refl c.deref-in-Between-3.result.now c.deref-in-Between-3.ensures))), within)

pub evaluate-evaluate-requires-in-In : goal.evaluate-evaluate-requires-in-In
evaluate-evaluate-requires-in-In g t c κs within = (doubled (weight (bound_expr_of c.deref-in-In.result.now)) (weight (bound_expr_of c.args.expression.now)) t c.decreases (lighter (weight (bound_expr_of c.deref-in-In.result.now)) (weight (bound_expr_of c.args.expression.now)) (weight (bound_expr_of c.args.expression.now)) refl (ap weight (in_is c.args.expression.now c.in-In.negated c.in-In.offset c.in-In.values c.in-In.operand c.in-In.is c.deref-in-In.result.now c.deref-in-In.ensures))), within)

pub evaluate-evaluate-requires-in-IsNull : goal.evaluate-evaluate-requires-in-IsNull
evaluate-evaluate-requires-in-IsNull g t c κs within = (doubled (weight (bound_expr_of c.deref-in-IsNull.result.now)) (weight (bound_expr_of c.args.expression.now)) t c.decreases (lighter (weight (bound_expr_of c.deref-in-IsNull.result.now)) (weight (bound_expr_of c.args.expression.now)) (weight (bound_expr_of c.args.expression.now)) refl (ap weight (is_null_is c.args.expression.now c.in-IsNull.offset c.in-IsNull.operand c.deref-in-IsNull.result.now c.deref-in-IsNull.ensures c.in-IsNull.negated c.in-IsNull.is))), within)

pub evaluate-evaluate-requires-in-Not : goal.evaluate-evaluate-requires-in-Not
evaluate-evaluate-requires-in-Not g t c κs within = (doubled (weight (bound_expr_of c.deref-in-Not.result.now)) (weight (bound_expr_of c.args.expression.now)) t c.decreases (lighter (weight (bound_expr_of c.deref-in-Not.result.now)) (weight (bound_expr_of c.args.expression.now)) (weight (bound_expr_of c.args.expression.now)) refl (ap weight (not_is c.args.expression.now c.in-Not.offset c.in-Not.operand c.deref-in-Not.result.now c.deref-in-Not.ensures c.in-Not.is))), within)

pub evaluate-evaluate-requires-in-Cast : goal.evaluate-evaluate-requires-in-Cast
evaluate-evaluate-requires-in-Cast g t c κs within = (doubled (weight (bound_expr_of c.deref-in-Cast.result.now)) (weight (bound_expr_of c.args.expression.now)) t c.decreases (lighter (weight (bound_expr_of c.deref-in-Cast.result.now)) (weight (bound_expr_of c.args.expression.now)) (weight (bound_expr_of c.args.expression.now)) refl (ap weight (cast_is c.args.expression.now c.in-Cast.offset c.in-Cast.operand c.deref-in-Cast.result.now c.deref-in-Cast.ensures c.in-Cast.to c.in-Cast.is))), within)

-- ---- the loops

pub conjunction-offset_bounds-members-member-index : goal.conjunction-offset_bounds-members-member-index
conjunction-offset_bounds-members-member-index g t c = c.loop-member.auto.member-index-end

pub conjunction-bounds-members-member-index : goal.conjunction-bounds-members-member-index
conjunction-bounds-members-member-index g t c = c.loop-member-test.true

pub conjunction-loop-member-smaller : goal.conjunction-loop-member-smaller
conjunction-loop-member-smaller g t c = falls (length c.args.members.now) c.loop-member.member-index c.loop-member-test.true

pub disjunction-offset_bounds-members-member-index : goal.disjunction-offset_bounds-members-member-index
disjunction-offset_bounds-members-member-index g t c = c.loop-member.auto.member-index-end

pub disjunction-bounds-members-member-index : goal.disjunction-bounds-members-member-index
disjunction-bounds-members-member-index g t c = c.loop-member-test.true

pub disjunction-loop-member-smaller : goal.disjunction-loop-member-smaller
disjunction-loop-member-smaller g t c = falls (length c.args.members.now) c.loop-member.member-index c.loop-member-test.true

pub chosen-offset_bounds-arms-arm-index : goal.chosen-offset_bounds-arms-arm-index
chosen-offset_bounds-arms-arm-index g t c = c.loop-arm.auto.arm-index-end

pub chosen-bounds-arms-arm-index : goal.chosen-bounds-arms-arm-index
chosen-bounds-arms-arm-index g t c = c.loop-arm-test.true

pub chosen-loop-arm-smaller : goal.chosen-loop-arm-smaller
chosen-loop-arm-smaller g t c = falls (length c.args.arms.now) c.loop-arm.arm-index c.loop-arm-test.true

pub chosen-loop-arm-init : goal.chosen-loop-arm-init
chosen-loop-arm-init g t c = record {
  rest = refl;
  memory = λ p. p;
  lighter = le_refl (arms_weight (bound_arms c.args.arms.now));
}

-- ---- a result that is no failure

pub conjunction-returns-then-eq-clause-memory : goal.conjunction-returns-then-eq-clause-memory
conjunction-returns-then-eq-clause-memory g t c = λ p. ok_safe False

pub conjunction-returns-clause-memory : goal.conjunction-returns-clause-memory
conjunction-returns-clause-memory g t c = λ p. ok_safe c.loop-member.known

pub disjunction-returns-then-eq-clause-memory : goal.disjunction-returns-then-eq-clause-memory
disjunction-returns-then-eq-clause-memory g t c = λ p. ok_safe True

pub disjunction-returns-clause-memory : goal.disjunction-returns-clause-memory
disjunction-returns-clause-memory g t c = λ p. ok_safe c.loop-member.known

pub chosen-returns-then-eq-clause-memory : goal.chosen-returns-then-eq-clause-memory
chosen-returns-then-eq-clause-memory g t c = λ p o. (c.evaluate-then-eq.ensures.memory (result_takes_none c.args.arms.now c.loop-arm.arm-index c.arm-item.result c.loop-arm-test.true c.arm-item.is (c.loop-arm.invariant.memory p)))

pub evaluate-returns-in-Column-clause-memory : goal.evaluate-returns-in-Column-clause-memory
evaluate-returns-in-Column-clause-memory g t c = λ p. ok_safe c.cell.result

pub evaluate-returns-in-Literal-clause-memory : goal.evaluate-returns-in-Literal-clause-memory
evaluate-returns-in-Literal-clause-memory g t c = λ p. ok_safe c.as_val.result

pub evaluate-returns-in-CurrentUser-clause-memory : goal.evaluate-returns-in-CurrentUser-clause-memory
evaluate-returns-in-CurrentUser-clause-memory g t c = λ p. ok_safe (Val.Text (CowStr.Borrowed c.args.role.now.name))

pub evaluate-returns-in-CountStar-clause-memory : goal.evaluate-returns-in-CountStar-clause-memory
evaluate-returns-in-CountStar-clause-memory g t c = λ p. ok_safe c.aggregate.result

-- ---- the name of the role is text

-- ---- nodes with operands

pub evaluate-returns-in-Negate-clause-value : goal.evaluate-returns-in-Negate-clause-value
evaluate-returns-in-Negate-clause-value g t c = rw (negate_is c.args.expression.now c.in-Negate.offset c.in-Negate.operand c.deref.result.now c.deref.ensures c.in-Negate.is) (c.negation.ensures.value _ c.evaluate.ensures.value)

pub evaluate-returns-in-Negate-clause-memory : goal.evaluate-returns-in-Negate-clause-memory
evaluate-returns-in-Negate-clause-memory g t c = λ p. c.negation.ensures.memory (c.evaluate.ensures.memory (rw (negate_is c.args.expression.now c.in-Negate.offset c.in-Negate.operand c.deref.result.now c.deref.ensures c.in-Negate.is) at p))

pub evaluate-returns-in-Cast-clause-value : goal.evaluate-returns-in-Cast-clause-value
evaluate-returns-in-Cast-clause-value g t c = rw (cast_is c.args.expression.now c.in-Cast.offset c.in-Cast.operand c.deref-in-Cast.result.now c.deref-in-Cast.ensures c.in-Cast.to c.in-Cast.is) (c.cast_at.ensures.value _ c.evaluate-in-Cast.ensures.value)

pub evaluate-returns-in-Cast-clause-memory : goal.evaluate-returns-in-Cast-clause-memory
evaluate-returns-in-Cast-clause-memory g t c = λ p.
    let both = rw (cast_is c.args.expression.now c.in-Cast.offset c.in-Cast.operand c.deref-in-Cast.result.now c.deref-in-Cast.ensures c.in-Cast.to c.in-Cast.is) at p in
    c.cast_at.ensures.memory (no_text c.in-Cast.to (and_left (is_no_text c.in-Cast.to) (takes_no_memory (bound_expr_of c.deref-in-Cast.result.now)) both))
    (c.evaluate-in-Cast.ensures.memory (and_right (is_no_text c.in-Cast.to) (takes_no_memory (bound_expr_of c.deref-in-Cast.result.now)) both))

pub evaluate-returns-in-IsNull-clause-value : goal.evaluate-returns-in-IsNull-clause-value
evaluate-returns-in-IsNull-clause-value g t c = rw (is_null_is c.args.expression.now c.in-IsNull.offset c.in-IsNull.operand c.deref-in-IsNull.result.now c.deref-in-IsNull.ensures c.in-IsNull.negated c.in-IsNull.is) (c.null_check.ensures.value _ c.evaluate-in-IsNull.ensures.value)

pub evaluate-returns-in-IsNull-clause-memory : goal.evaluate-returns-in-IsNull-clause-memory
evaluate-returns-in-IsNull-clause-memory g t c = λ p. c.null_check.ensures.memory (c.evaluate-in-IsNull.ensures.memory (rw (is_null_is c.args.expression.now c.in-IsNull.offset c.in-IsNull.operand c.deref-in-IsNull.result.now c.deref-in-IsNull.ensures c.in-IsNull.negated c.in-IsNull.is) at p))

pub evaluate-returns-in-Not-clause-value : goal.evaluate-returns-in-Not-clause-value
evaluate-returns-in-Not-clause-value g t c = rw (not_is c.args.expression.now c.in-Not.offset c.in-Not.operand c.deref-in-Not.result.now c.deref-in-Not.ensures c.in-Not.is) (c.logical_not.ensures.value _ c.evaluate-in-Not.ensures.value)

pub evaluate-returns-in-Not-clause-memory : goal.evaluate-returns-in-Not-clause-memory
evaluate-returns-in-Not-clause-memory g t c = λ p. c.logical_not.ensures.memory (c.evaluate-in-Not.ensures.memory (rw (not_is c.args.expression.now c.in-Not.offset c.in-Not.operand c.deref-in-Not.result.now c.deref-in-Not.ensures c.in-Not.is) at p))

pub evaluate-returns-in-Column-clause-value : goal.evaluate-returns-in-Column-clause-value
evaluate-returns-in-Column-clause-value g t c = ap (λ e. meaning (g.R.Row.cells c.args.row.now) c.args.role.now.name.now (bound_expr_of e)) c.in-Column.is ∙ ap Ok (sym c.cell.ensures)

pub evaluate-returns-in-Literal-clause-value : goal.evaluate-returns-in-Literal-clause-value
evaluate-returns-in-Literal-clause-value g t c = ap (λ e. meaning (g.R.Row.cells c.args.row.now) c.args.role.now.name.now (bound_expr_of e)) c.in-Literal.is ∙ ap Ok (sym c.as_val.ensures)

pub evaluate-returns-in-CurrentUser-clause-value : goal.evaluate-returns-in-CurrentUser-clause-value
evaluate-returns-in-CurrentUser-clause-value g t c = ap (λ e. meaning (g.R.Row.cells c.args.row.now) c.args.role.now.name.now (bound_expr_of e)) c.in-CurrentUser.is

pub evaluate-returns-in_err-x-in-Arithmetic-clause-value : goal.evaluate-returns-in_err-x-in-Arithmetic-clause-value
evaluate-returns-in_err-x-in-Arithmetic-clause-value g t c = exits (datum_of {A = g.row.A.Denot}) c.from_residual.result c.in_err-x-in-Arithmetic.field-0.0 _ c.from_residual.ensures.1 (arithmetic_fails c.args.expression.now c.in-Arithmetic.offset c.in-Arithmetic.left c.in-Arithmetic.right c.deref-in-Arithmetic.result.now c.deref-in-Arithmetic.ensures c.in-Arithmetic.right.value refl (g.R.Row.cells c.args.row.now) c.args.role.now.name.now c.in-Arithmetic.operator c.in-Arithmetic.is c.in_err-x-in-Arithmetic.field-0.0 c.in_err-x-in-Arithmetic.ensures.value)

pub evaluate-returns-in_ok-x-in-Arithmetic-clause-value : goal.evaluate-returns-in_ok-x-in-Arithmetic-clause-value
evaluate-returns-in_ok-x-in-Arithmetic-clause-value g t c = rw (arithmetic_known c.args.expression.now c.in-Arithmetic.offset c.in-Arithmetic.left c.in-Arithmetic.right c.deref-in-Arithmetic.result.now c.deref-in-Arithmetic.ensures c.deref-in-Arithmetic-2.result.now c.deref-in-Arithmetic-2.ensures (g.R.Row.cells c.args.row.now) c.args.role.now.name.now c.in-Arithmetic.operator c.in-Arithmetic.is (datum_of c.in_ok-x-in-Arithmetic.x) c.in_ok-x-in-Arithmetic.ensures.value) (c.arithmetic.ensures.value _ c.evaluate-in-Arithmetic-2.ensures.value)

pub evaluate-returns-in_err-x-in-Arithmetic-clause-memory : goal.evaluate-returns-in_err-x-in-Arithmetic-clause-memory
evaluate-returns-in_err-x-in-Arithmetic-clause-memory g t c = λ p. exits_safe c.from_residual.result c.in_err-x-in-Arithmetic.field-0.0 c.from_residual.ensures.1 (c.in_err-x-in-Arithmetic.ensures.memory (and_left (takes_no_memory (bound_expr_of c.deref-in-Arithmetic.result.now)) (takes_no_memory (bound_expr_of c.in-Arithmetic.right.value)) (rw (arithmetic_is c.args.expression.now c.in-Arithmetic.offset c.in-Arithmetic.left c.in-Arithmetic.right c.deref-in-Arithmetic.result.now c.deref-in-Arithmetic.ensures c.in-Arithmetic.right.value refl c.in-Arithmetic.operator c.in-Arithmetic.is) at p)))

pub evaluate-returns-in_ok-x-in-Arithmetic-clause-memory : goal.evaluate-returns-in_ok-x-in-Arithmetic-clause-memory
evaluate-returns-in_ok-x-in-Arithmetic-clause-memory g t c = λ p. c.arithmetic.ensures.memory (c.evaluate-in-Arithmetic-2.ensures.memory (and_right (takes_no_memory (bound_expr_of c.deref-in-Arithmetic.result.now)) (takes_no_memory (bound_expr_of c.deref-in-Arithmetic-2.result.now)) (rw (arithmetic_is c.args.expression.now c.in-Arithmetic.offset c.in-Arithmetic.left c.in-Arithmetic.right c.deref-in-Arithmetic.result.now c.deref-in-Arithmetic.ensures c.deref-in-Arithmetic-2.result.now c.deref-in-Arithmetic-2.ensures c.in-Arithmetic.operator c.in-Arithmetic.is) at p)))

pub evaluate-returns-in_err-x-in-Comparison-clause-value : goal.evaluate-returns-in_err-x-in-Comparison-clause-value
evaluate-returns-in_err-x-in-Comparison-clause-value g t c = exits (datum_of {A = g.row.A.Denot}) c.from_residual-in_err-x-in-Comparison.result c.in_err-x-in-Comparison.field-0.0 _ c.from_residual-in_err-x-in-Comparison.ensures.1 (comparison_fails c.args.expression.now c.in-Comparison.offset c.in-Comparison.left c.in-Comparison.right c.deref-in-Comparison.result.now c.deref-in-Comparison.ensures c.in-Comparison.right.value refl (g.R.Row.cells c.args.row.now) c.args.role.now.name.now c.in-Comparison.operator c.in-Comparison.is c.in_err-x-in-Comparison.field-0.0 c.in_err-x-in-Comparison.ensures.value)

pub evaluate-returns-in_ok-x-in-Comparison-clause-value : goal.evaluate-returns-in_ok-x-in-Comparison-clause-value
evaluate-returns-in_ok-x-in-Comparison-clause-value g t c = rw (comparison_known c.args.expression.now c.in-Comparison.offset c.in-Comparison.left c.in-Comparison.right c.deref-in-Comparison.result.now c.deref-in-Comparison.ensures c.deref-in-Comparison-2.result.now c.deref-in-Comparison-2.ensures (g.R.Row.cells c.args.row.now) c.args.role.now.name.now c.in-Comparison.operator c.in-Comparison.is (datum_of c.in_ok-x-in-Comparison.x) c.in_ok-x-in-Comparison.ensures.value) (c.comparison.ensures.value _ c.evaluate-in-Comparison-2.ensures.value)

pub evaluate-returns-in_err-x-in-Comparison-clause-memory : goal.evaluate-returns-in_err-x-in-Comparison-clause-memory
evaluate-returns-in_err-x-in-Comparison-clause-memory g t c = λ p. exits_safe c.from_residual-in_err-x-in-Comparison.result c.in_err-x-in-Comparison.field-0.0 c.from_residual-in_err-x-in-Comparison.ensures.1 (c.in_err-x-in-Comparison.ensures.memory (and_left (takes_no_memory (bound_expr_of c.deref-in-Comparison.result.now)) (takes_no_memory (bound_expr_of c.in-Comparison.right.value)) (rw (comparison_is c.args.expression.now c.in-Comparison.offset c.in-Comparison.left c.in-Comparison.right c.deref-in-Comparison.result.now c.deref-in-Comparison.ensures c.in-Comparison.right.value refl c.in-Comparison.operator c.in-Comparison.is) at p)))

pub evaluate-returns-in_ok-x-in-Comparison-clause-memory : goal.evaluate-returns-in_ok-x-in-Comparison-clause-memory
evaluate-returns-in_ok-x-in-Comparison-clause-memory g t c = λ p. c.comparison.ensures.memory (c.evaluate-in-Comparison-2.ensures.memory (and_right (takes_no_memory (bound_expr_of c.deref-in-Comparison.result.now)) (takes_no_memory (bound_expr_of c.deref-in-Comparison-2.result.now)) (rw (comparison_is c.args.expression.now c.in-Comparison.offset c.in-Comparison.left c.in-Comparison.right c.deref-in-Comparison.result.now c.deref-in-Comparison.ensures c.deref-in-Comparison-2.result.now c.deref-in-Comparison-2.ensures c.in-Comparison.operator c.in-Comparison.is) at p)))

pub evaluate-returns-in_err-x-in-Between-clause-value : goal.evaluate-returns-in_err-x-in-Between-clause-value
evaluate-returns-in_err-x-in-Between-clause-value g t c = exits (datum_of {A = g.row.A.Denot}) c.from_residual-in_err-x-in-Between.result c.in_err-x-in-Between.field-0.0 _ c.from_residual-in_err-x-in-Between.ensures.1 (between_fails c.args.expression.now c.in-Between.negated c.in-Between.offset c.in-Between.operand c.in-Between.low c.in-Between.high c.in-Between.is c.deref-in-Between.result.now c.deref-in-Between.ensures c.in-Between.low.value refl c.in-Between.high.value refl (g.R.Row.cells c.args.row.now) c.args.role.now.name.now c.in_err-x-in-Between.field-0.0 c.in_err-x-in-Between.ensures.value)

pub evaluate-returns-in_err-x-in-Between-clause-memory : goal.evaluate-returns-in_err-x-in-Between-clause-memory
evaluate-returns-in_err-x-in-Between-clause-memory g t c = λ p. exits_safe c.from_residual-in_err-x-in-Between.result c.in_err-x-in-Between.field-0.0 c.from_residual-in_err-x-in-Between.ensures.1 (c.in_err-x-in-Between.ensures.memory (operand_takes_none c.args.expression.now c.in-Between.negated c.in-Between.offset c.in-Between.operand c.in-Between.low c.in-Between.high c.in-Between.is c.deref-in-Between.result.now c.deref-in-Between.ensures c.in-Between.low.value refl c.in-Between.high.value refl p))

pub evaluate-returns-in_err-y-in-Between-clause-value : goal.evaluate-returns-in_err-y-in-Between-clause-value
evaluate-returns-in_err-y-in-Between-clause-value g t c = exits (datum_of {A = g.row.A.Denot}) c.from_residual-in_err-y-in-Between.result c.in_err-y-in-Between.field-0.0 _ c.from_residual-in_err-y-in-Between.ensures.1 (between_low_fails c.args.expression.now c.in-Between.negated c.in-Between.offset c.in-Between.operand c.in-Between.low c.in-Between.high c.in-Between.is c.deref-in-Between.result.now c.deref-in-Between.ensures c.deref-in-Between-2.result.now c.deref-in-Between-2.ensures c.in-Between.high.value refl (g.R.Row.cells c.args.row.now) c.args.role.now.name.now (datum_of c.in_ok-x-in-Between.x) c.in_ok-x-in-Between.ensures.value c.in_err-y-in-Between.field-0.0 c.in_err-y-in-Between.ensures.value)

pub evaluate-returns-in_err-y-in-Between-clause-memory : goal.evaluate-returns-in_err-y-in-Between-clause-memory
evaluate-returns-in_err-y-in-Between-clause-memory g t c = λ p. exits_safe c.from_residual-in_err-y-in-Between.result c.in_err-y-in-Between.field-0.0 c.from_residual-in_err-y-in-Between.ensures.1 (c.in_err-y-in-Between.ensures.memory (low_takes_none c.args.expression.now c.in-Between.negated c.in-Between.offset c.in-Between.operand c.in-Between.low c.in-Between.high c.in-Between.is c.deref-in-Between.result.now c.deref-in-Between.ensures c.deref-in-Between-2.result.now c.deref-in-Between-2.ensures c.in-Between.high.value refl p))

pub evaluate-returns-in_ok-y-in-Between-clause-value : goal.evaluate-returns-in_ok-y-in-Between-clause-value
evaluate-returns-in_ok-y-in-Between-clause-value g t c = rw (between_known c.args.expression.now c.in-Between.negated c.in-Between.offset c.in-Between.operand c.in-Between.low c.in-Between.high c.in-Between.is c.deref-in-Between.result.now c.deref-in-Between.ensures c.deref-in-Between-2.result.now c.deref-in-Between-2.ensures c.deref-in-Between-3.result.now c.deref-in-Between-3.ensures (g.R.Row.cells c.args.row.now) c.args.role.now.name.now (datum_of c.in_ok-x-in-Between.x) c.in_ok-x-in-Between.ensures.value (datum_of c.in_ok-y-in-Between.y) c.in_ok-y-in-Between.ensures.value) (c.between.ensures.value _ c.evaluate-in-Between-3.ensures.value)

pub evaluate-returns-in_ok-y-in-Between-clause-memory : goal.evaluate-returns-in_ok-y-in-Between-clause-memory
evaluate-returns-in_ok-y-in-Between-clause-memory g t c = λ p. c.between.ensures.memory (c.evaluate-in-Between-3.ensures.memory (high_takes_none c.args.expression.now c.in-Between.negated c.in-Between.offset c.in-Between.operand c.in-Between.low c.in-Between.high c.in-Between.is c.deref-in-Between.result.now c.deref-in-Between.ensures c.deref-in-Between-2.result.now c.deref-in-Between-2.ensures c.deref-in-Between-3.result.now c.deref-in-Between-3.ensures p))

pub chosen-evaluate-requires : goal.chosen-evaluate-requires
chosen-evaluate-requires g t c κs within = (arm_below (bound_arms c.args.arms.now) (otherwise_of c.args.otherwise.now) t (weight (bound_expr_of c.arm-item.result.when)) c.decreases (when_lighter c.args.arms.now c.loop-arm.arm-index c.arm-item.result c.loop-arm-test.true c.arm-item.is c.loop-arm.invariant.lighter), within)

pub chosen-evaluate-requires-then-eq : goal.chosen-evaluate-requires-then-eq
chosen-evaluate-requires-then-eq g t c κs within = (arm_below (bound_arms c.args.arms.now) (otherwise_of c.args.otherwise.now) t (weight (bound_expr_of c.arm-item.result.result)) c.decreases (result_lighter c.args.arms.now c.loop-arm.arm-index c.arm-item.result c.loop-arm-test.true c.arm-item.is c.loop-arm.invariant.lighter), within)

pub evaluate-returns-in-In-clause-value : goal.evaluate-returns-in-In-clause-value
evaluate-returns-in-In-clause-value g t c = member_of (g.R.Row.cells c.args.row.now) c.args.role.now.name.now c.args.expression.now c.in-In.negated c.in-In.offset c.in-In.values c.in-In.operand c.in-In.is c.deref-in-In.result.now c.deref-in-In.ensures c.as_slice.result.now c.as_slice.ensures c.membership.result (c.membership.ensures.value _ c.evaluate-in-In.ensures.value)

pub evaluate-returns-in-In-clause-memory : goal.evaluate-returns-in-In-clause-memory
evaluate-returns-in-In-clause-memory g t c = λ p. c.membership.ensures.memory (c.evaluate-in-In.ensures.memory (rw (in_is c.args.expression.now c.in-In.negated c.in-In.offset c.in-In.values c.in-In.operand c.in-In.is c.deref-in-In.result.now c.deref-in-In.ensures) at p))

pub evaluate-returns-in-CountStar-clause-value : goal.evaluate-returns-in-CountStar-clause-value
evaluate-returns-in-CountStar-clause-value g t c = aggregate_is (g.R.Row.cells c.args.row.now) c.args.role.now.name.now c.args.expression.now c.in-CountStar.offset c.in-CountStar.is ∙ ap Ok (sym c.aggregate.ensures)

pub evaluate-deref-requires : goal.evaluate-deref-requires
evaluate-deref-requires g t c κs within = (expr_lives g.row.A g.A.Allocator κs.1.0 within.0, within.1)

pub evaluate-deref-requires-in-Arithmetic : goal.evaluate-deref-requires-in-Arithmetic
evaluate-deref-requires-in-Arithmetic g t c κs within = (expr_lives g.row.A g.A.Allocator κs.1.0 within.0, within.1)

pub evaluate-deref-requires-in-Arithmetic-2 : goal.evaluate-deref-requires-in-Arithmetic-2
evaluate-deref-requires-in-Arithmetic-2 g t c κs within = (expr_lives g.row.A g.A.Allocator κs.1.0 within.0, within.1)

pub evaluate-deref-requires-in-Between : goal.evaluate-deref-requires-in-Between
evaluate-deref-requires-in-Between g t c κs within = (expr_lives g.row.A g.A.Allocator κs.1.0 within.0, within.1)

pub evaluate-deref-requires-in-Between-2 : goal.evaluate-deref-requires-in-Between-2
evaluate-deref-requires-in-Between-2 g t c κs within = (expr_lives g.row.A g.A.Allocator κs.1.0 within.0, within.1)

pub evaluate-deref-requires-in-Between-3 : goal.evaluate-deref-requires-in-Between-3
evaluate-deref-requires-in-Between-3 g t c κs within = (expr_lives g.row.A g.A.Allocator κs.1.0 within.0, within.1)

pub evaluate-deref-requires-in-Cast : goal.evaluate-deref-requires-in-Cast
evaluate-deref-requires-in-Cast g t c κs within = (expr_lives g.row.A g.A.Allocator κs.1.0 within.0, within.1)

pub evaluate-deref-requires-in-Comparison : goal.evaluate-deref-requires-in-Comparison
evaluate-deref-requires-in-Comparison g t c κs within = (expr_lives g.row.A g.A.Allocator κs.1.0 within.0, within.1)

pub evaluate-deref-requires-in-Comparison-2 : goal.evaluate-deref-requires-in-Comparison-2
evaluate-deref-requires-in-Comparison-2 g t c κs within = (expr_lives g.row.A g.A.Allocator κs.1.0 within.0, within.1)

pub evaluate-deref-requires-in-In : goal.evaluate-deref-requires-in-In
evaluate-deref-requires-in-In g t c κs within = (expr_lives g.row.A g.A.Allocator κs.1.0 within.0, within.1)

pub evaluate-deref-requires-in-IsNull : goal.evaluate-deref-requires-in-IsNull
evaluate-deref-requires-in-IsNull g t c κs within = (expr_lives g.row.A g.A.Allocator κs.1.0 within.0, within.1)

pub evaluate-deref-requires-in-Not : goal.evaluate-deref-requires-in-Not
evaluate-deref-requires-in-Not g t c κs within = (expr_lives g.row.A g.A.Allocator κs.1.0 within.0, within.1)

pub evaluate-deref-requires-in-And : goal.evaluate-deref-requires-in-And
evaluate-deref-requires-in-And g t c κs within = (expr_lives g.row.A g.A.Allocator κs.1.0 within.0, within.1)

pub evaluate-deref-requires-in-Or : goal.evaluate-deref-requires-in-Or
evaluate-deref-requires-in-Or g t c κs within = (expr_lives g.row.A g.A.Allocator κs.1.0 within.0, within.1)

pub evaluate-deref-requires-in-Case : goal.evaluate-deref-requires-in-Case
evaluate-deref-requires-in-Case g t c κs within = (arm_lives g.row.A g.A.Allocator κs.1.0 within.0, within.1)

-- ---- CASE and its ELSE

pub evaluate-returns-in-Case-clause-value : goal.evaluate-returns-in-Case-clause-value
evaluate-returns-in-Case-clause-value g t c = rw (by_arms (g.R.Row.cells c.args.row.now) c.args.role.now.name.now c.args.expression.now c.in-Case.offset c.in-Case.arms c.deref-in-Case.result.now c.deref-in-Case.ensures.value c.in-Case.otherwise c.in-Case.is) c.chosen.ensures.value

pub evaluate-returns-in-Case-clause-memory : goal.evaluate-returns-in-Case-clause-memory
evaluate-returns-in-Case-clause-memory g t c = λ p.
    c.chosen.ensures.memory (arms_take_none c.args.expression.now c.in-Case.offset c.in-Case.arms c.deref-in-Case.result.now c.deref-in-Case.ensures.value c.in-Case.otherwise c.in-Case.is p)
    (otherwise_takes_none c.args.expression.now c.in-Case.offset c.in-Case.arms c.deref-in-Case.result.now c.deref-in-Case.ensures.value c.in-Case.otherwise c.in-Case.is p)

pub chosen-returns-in-Some-clause-value : goal.chosen-returns-in-Some-clause-value
chosen-returns-in-Some-clause-value g t c =
    rw (case_over (g.R.Row.cells c.args.row.now) c.args.role.now.name.now c.args.arms.now c.loop-arm.arm-index (otherwise (g.R.Row.cells c.args.row.now) c.args.role.now.name.now (otherwise_of c.args.otherwise.now)) c.loop-arm.invariant.rest (omega (arith, c.loop-arm-test.false)), else_value (g.R.Row.cells c.args.row.now) c.args.role.now.name.now c.args.otherwise.now c.in-Some.other c.in-Some.is c.deref.result.now c.deref.ensures) c.evaluate-in-Some.ensures.value

pub chosen-returns-in-Some-clause-memory : goal.chosen-returns-in-Some-clause-memory
chosen-returns-in-Some-clause-memory g t c = λ p o. c.evaluate-in-Some.ensures.memory (else_takes_none c.args.otherwise.now o c.in-Some.other c.in-Some.is c.deref.result.now c.deref.ensures)

pub chosen-returns-in-None-clause-value : goal.chosen-returns-in-None-clause-value
chosen-returns-in-None-clause-value g t c =
    case_over (g.R.Row.cells c.args.row.now) c.args.role.now.name.now c.args.arms.now c.loop-arm.arm-index (otherwise (g.R.Row.cells c.args.row.now) c.args.role.now.name.now (otherwise_of c.args.otherwise.now)) c.loop-arm.invariant.rest (omega (arith, c.loop-arm-test.false)) ∙ else_null (g.R.Row.cells c.args.row.now) c.args.role.now.name.now c.args.otherwise.now c.in-None.is

pub chosen-returns-in-None-clause-memory : goal.chosen-returns-in-None-clause-memory
chosen-returns-in-None-clause-memory g t c = λ p o. ok_safe Val.Null

pub chosen-evaluate-requires-in-Some : goal.chosen-evaluate-requires-in-Some
chosen-evaluate-requires-in-Some g t c κs within = (else_below (bound_arms c.args.arms.now) (otherwise_of c.args.otherwise.now) t (weight (bound_expr_of c.deref.result.now)) c.decreases (else_weight c.args.otherwise.now c.in-Some.other c.in-Some.is c.deref.result.now c.deref.ensures), within)

pub chosen-deref-requires : goal.chosen-deref-requires
chosen-deref-requires g t c κs within = (expr_lives g.row.A g.A.Allocator κs.1.0 within.0, within.1)
