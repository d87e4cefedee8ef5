use borrow.Author.Count.{falls}
use Rattle.std.proofs.Common.{◌∙◌, ◌∷◌, ◌<◌, length, sym, ap, refl, map, subst, arith}
use Rattle.std.proofs.Math.Bool.{and-true}
use Rattle.std.proofs.Math.Nat.{le_refl}
use Rattle.row_ast.specs.View.{expr_of, exprs, arms as arms_of}
use Rattle.row_ast.specs.Weights.{weight, all_weight, arms_weight}
use Rattle.row_ast.proofs.Walks.{and_is, or_is, case_none, case_other, case_lighter, otherwise_lighter, exprs_still, arms_still, exprs_lighter, when_lighter, result_lighter}
use Rattle.row_ast.proofs.Operands.{negate_is, in_is, is_null_is, not_is, cast_is, call_is, arithmetic_is, comparison_is, between_is}
use Rattle.memory.proofs.Lighter.{lighter, left_lighter, right_lighter, middle_lighter, last_lighter}
use Rattle.row_ast.specs.Ast.{ColumnRef}
use Rattle.plan_texts.specs.View.{plan_entry_of}
use Rattle.plan_trees.specs.PlanTrees.{is_of}
use Rattle.plan_trees.proofs.ColumnWalks.{both_are, columns_as, members_step, members_over, arm_step, arms_over_all}
use Rattle.plan_trees.proofs.named_entries.+named.Goals as goal

-- ---- each call is on less

pub names_only-names_only-requires : goal.names_only-names_only-requires
names_only-names_only-requires g t c κs within = (lighter (weight (expr_of c.deref.result.now)) _ t c.decreases (ap weight (negate_is c.args.expression.now c.in-Negate.offset c.in-Negate.operand c.deref.result.now c.deref.ensures c.in-Negate.is)), within)

pub names_only-names_only-left-requires : goal.names_only-names_only-left-requires
names_only-names_only-left-requires g t c κs within = (left_lighter (weight (expr_of c.deref-in-Arithmetic.result.now)) _ t c.decreases _ (ap weight (arithmetic_is c.args.expression.now c.in-Arithmetic.offset c.in-Arithmetic.left c.in-Arithmetic.right c.deref-in-Arithmetic.result.now c.deref-in-Arithmetic.ensures _ refl c.in-Arithmetic.operator c.in-Arithmetic.is)), within)

pub names_only-names_only-requires-in-Arithmetic : goal.names_only-names_only-requires-in-Arithmetic
names_only-names_only-requires-in-Arithmetic g t c κs within = (right_lighter (weight (expr_of c.deref-in-Arithmetic-2.result.now)) _ t c.decreases _ (ap weight (arithmetic_is c.args.expression.now c.in-Arithmetic.offset c.in-Arithmetic.left c.in-Arithmetic.right c.deref-in-Arithmetic.result.now c.deref-in-Arithmetic.ensures c.deref-in-Arithmetic-2.result.now c.deref-in-Arithmetic-2.ensures c.in-Arithmetic.operator c.in-Arithmetic.is)), within)

pub names_only-names_only-left-requires-in-Comparison : goal.names_only-names_only-left-requires-in-Comparison
names_only-names_only-left-requires-in-Comparison g t c κs within = (left_lighter (weight (expr_of c.deref-in-Comparison.result.now)) _ t c.decreases _ (ap weight (comparison_is c.args.expression.now c.in-Comparison.offset c.in-Comparison.left c.in-Comparison.right c.deref-in-Comparison.result.now c.deref-in-Comparison.ensures _ refl c.in-Comparison.operator c.in-Comparison.is)), within)

pub names_only-names_only-requires-in-Comparison : goal.names_only-names_only-requires-in-Comparison
names_only-names_only-requires-in-Comparison g t c κs within = (right_lighter (weight (expr_of c.deref-in-Comparison-2.result.now)) _ t c.decreases _ (ap weight (comparison_is c.args.expression.now c.in-Comparison.offset c.in-Comparison.left c.in-Comparison.right c.deref-in-Comparison.result.now c.deref-in-Comparison.ensures c.deref-in-Comparison-2.result.now c.deref-in-Comparison-2.ensures c.in-Comparison.operator c.in-Comparison.is)), within)

pub names_only-names_only-operand-requires : goal.names_only-names_only-operand-requires
names_only-names_only-operand-requires g t c κs within = (left_lighter (weight (expr_of c.deref-in-Between.result.now)) _ t c.decreases _ (ap weight (between_is c.args.expression.now c.in-Between.offset c.in-Between.operand c.in-Between.low c.deref-in-Between.result.now c.deref-in-Between.ensures _ refl c.in-Between.high _ refl c.in-Between.negated c.in-Between.is)), within)

pub names_only-names_only-low-requires : goal.names_only-names_only-low-requires
names_only-names_only-low-requires g t c κs within = (middle_lighter (weight (expr_of c.deref-in-Between-2.result.now)) _ t c.decreases _ _ (ap weight (between_is c.args.expression.now c.in-Between.offset c.in-Between.operand c.in-Between.low c.deref-in-Between.result.now c.deref-in-Between.ensures c.deref-in-Between-2.result.now c.deref-in-Between-2.ensures c.in-Between.high _ refl c.in-Between.negated c.in-Between.is)), within)

pub names_only-names_only-high-requires : goal.names_only-names_only-high-requires
names_only-names_only-high-requires g t c κs within = (last_lighter (weight (expr_of c.deref-in-Between-3.result.now)) _ t c.decreases _ _ (ap weight (between_is c.args.expression.now c.in-Between.offset c.in-Between.operand c.in-Between.low c.deref-in-Between.result.now c.deref-in-Between.ensures c.deref-in-Between-2.result.now c.deref-in-Between-2.ensures c.in-Between.high c.deref-in-Between-3.result.now c.deref-in-Between-3.ensures c.in-Between.negated c.in-Between.is)), within)

pub names_only-names_only-requires-in-In : goal.names_only-names_only-requires-in-In
names_only-names_only-requires-in-In g t c κs within = (lighter (weight (expr_of c.deref-in-In.result.now)) _ t c.decreases (ap weight (in_is c.args.expression.now c.in-In.offset c.in-In.operand c.deref-in-In.result.now c.deref-in-In.ensures c.in-In.negated c.in-In.values c.in-In.is)), within)

pub names_only-names_only-requires-in-IsNull : goal.names_only-names_only-requires-in-IsNull
names_only-names_only-requires-in-IsNull g t c κs within = (lighter (weight (expr_of c.deref-in-IsNull.result.now)) _ t c.decreases (ap weight (is_null_is c.args.expression.now c.in-IsNull.offset c.in-IsNull.operand c.deref-in-IsNull.result.now c.deref-in-IsNull.ensures c.in-IsNull.negated c.in-IsNull.is)), within)

pub names_only-names_only-requires-in-Not : goal.names_only-names_only-requires-in-Not
names_only-names_only-requires-in-Not g t c κs within = (lighter (weight (expr_of c.deref-in-Not.result.now)) _ t c.decreases (ap weight (not_is c.args.expression.now c.in-Not.offset c.in-Not.operand c.deref-in-Not.result.now c.deref-in-Not.ensures c.in-Not.is)), within)

pub names_only-names_only-requires-in-Cast : goal.names_only-names_only-requires-in-Cast
names_only-names_only-requires-in-Cast g t c κs within = (lighter (weight (expr_of c.deref-in-Cast.result.now)) _ t c.decreases (ap weight (cast_is c.args.expression.now c.in-Cast.offset c.in-Cast.operand c.deref-in-Cast.result.now c.deref-in-Cast.ensures c.in-Cast.to c.in-Cast.is)), within)

pub names_only-names_only-requires-in-Call : goal.names_only-names_only-requires-in-Call
names_only-names_only-requires-in-Call g t c κs within = (lighter (weight (expr_of c.deref-in-Call.result.now)) _ t c.decreases (ap weight (call_is c.args.expression.now c.in-Call.offset c.in-Call.argument c.deref-in-Call.result.now c.deref-in-Call.ensures c.in-Call.aggregate c.in-Call.is)), within)

pub names_only-members_named-requires : goal.names_only-members_named-requires
names_only-members_named-requires g t c κs within = (lighter (all_weight (exprs c.deref-in-And.result.now)) _ t c.decreases (ap weight (and_is c.args.expression.now c.in-And.offset c.in-And.members c.deref-in-And.result.now c.deref-in-And.ensures.value c.in-And.is)), within)

pub names_only-members_named-requires-in-Or : goal.names_only-members_named-requires-in-Or
names_only-members_named-requires-in-Or g t c κs within = (lighter (all_weight (exprs c.deref-in-Or.result.now)) _ t c.decreases (ap weight (or_is c.args.expression.now c.in-Or.offset c.in-Or.members c.deref-in-Or.result.now c.deref-in-Or.ensures.value c.in-Or.is)), within)

pub names_only-arms_named-arms-requires : goal.names_only-arms_named-arms-requires
names_only-arms_named-arms-requires g t c κs within = (subst (λ n. arms_weight (arms_of c.deref-in-Case.result.now) < n) c.decreases (case_lighter c.args.expression.now c.in-Case.offset c.in-Case.arms c.deref-in-Case.result.now c.deref-in-Case.ensures.value c.in-Case.otherwise c.in-Case.is), within)

pub names_only-names_only-requires-in-Some : goal.names_only-names_only-requires-in-Some
names_only-names_only-requires-in-Some g t c κs within = (subst (λ n. weight (expr_of c.deref-in-Some.result.now) < n) c.decreases (otherwise_lighter c.args.expression.now c.in-Case.offset c.in-Case.arms c.deref-in-Case.result.now c.deref-in-Case.ensures.value c.in-Case.otherwise c.in-Case.is c.in-Some.value c.in-Some.is c.deref-in-Some.result.now c.deref-in-Some.ensures), within)

pub members_named-names_only-requires : goal.members_named-names_only-requires
members_named-names_only-requires g t c κs within = (subst (λ n. weight (expr_of c.member-item.result) < n) c.decreases (exprs_lighter c.args.members.now c.loop-member.member-index c.member-item.result c.loop-member-test.true c.member-item.is c.loop-member.invariant.lighter), within)

pub arms_named-names_only-when-requires : goal.arms_named-names_only-when-requires
arms_named-names_only-when-requires g t c κs within = (subst (λ n. weight (expr_of c.arm-item.result.when) < n) c.decreases (when_lighter c.args.arms.now c.loop-arm.arm-index c.arm-item.result c.loop-arm-test.true c.arm-item.is c.loop-arm.invariant.lighter), within)

pub arms_named-names_only-result-requires : goal.arms_named-names_only-result-requires
arms_named-names_only-result-requires g t c κs within = (subst (λ n. weight (expr_of c.arm-item.result.result) < n) c.decreases (result_lighter c.args.arms.now c.loop-arm.arm-index c.arm-item.result c.loop-arm-test.true c.arm-item.is c.loop-arm.invariant.lighter), within)

-- ---- the result of each node

pub names_only-returns-in-Column : goal.names_only-returns-in-Column
names_only-returns-in-Column g t c = columns_as (λ (x : ColumnRef). is_of (map plan_entry_of c.args.entries.now) (c.args.step ∷ c.args.before.now) x.table) _ _ _ (ap expr_of c.in-Column.is) c.is_of.ensures

pub names_only-returns-in-Negate : goal.names_only-returns-in-Negate
names_only-returns-in-Negate g t c = columns_as (λ (x : ColumnRef). is_of (map plan_entry_of c.args.entries.now) (c.args.step ∷ c.args.before.now) x.table) _ _ _ (negate_is c.args.expression.now c.in-Negate.offset c.in-Negate.operand c.deref.result.now c.deref.ensures c.in-Negate.is) c.names_only.ensures

pub names_only-returns-in-Arithmetic : goal.names_only-returns-in-Arithmetic
names_only-returns-in-Arithmetic g t c = columns_as (λ (x : ColumnRef). is_of (map plan_entry_of c.args.entries.now) (c.args.step ∷ c.args.before.now) x.table) _ _ _ (arithmetic_is c.args.expression.now c.in-Arithmetic.offset c.in-Arithmetic.left c.in-Arithmetic.right c.deref-in-Arithmetic.result.now c.deref-in-Arithmetic.ensures c.deref-in-Arithmetic-2.result.now c.deref-in-Arithmetic-2.ensures c.in-Arithmetic.operator c.in-Arithmetic.is) (both_are _ _ _ _ _ c.both.ensures c.names_only-left.ensures c.names_only-in-Arithmetic.ensures)

pub names_only-returns-in-Comparison : goal.names_only-returns-in-Comparison
names_only-returns-in-Comparison g t c = columns_as (λ (x : ColumnRef). is_of (map plan_entry_of c.args.entries.now) (c.args.step ∷ c.args.before.now) x.table) _ _ _ (comparison_is c.args.expression.now c.in-Comparison.offset c.in-Comparison.left c.in-Comparison.right c.deref-in-Comparison.result.now c.deref-in-Comparison.ensures c.deref-in-Comparison-2.result.now c.deref-in-Comparison-2.ensures c.in-Comparison.operator c.in-Comparison.is) (both_are _ _ _ _ _ c.both-in-Comparison.ensures c.names_only-left-in-Comparison.ensures c.names_only-in-Comparison.ensures)

pub names_only-returns-in-Between : goal.names_only-returns-in-Between
names_only-returns-in-Between g t c = columns_as (λ (x : ColumnRef). is_of (map plan_entry_of c.args.entries.now) (c.args.step ∷ c.args.before.now) x.table) _ _ _ (between_is c.args.expression.now c.in-Between.offset c.in-Between.operand c.in-Between.low c.deref-in-Between.result.now c.deref-in-Between.ensures c.deref-in-Between-2.result.now c.deref-in-Between-2.ensures c.in-Between.high c.deref-in-Between-3.result.now c.deref-in-Between-3.ensures c.in-Between.negated c.in-Between.is) (both_are _ _ _ _ _ c.both-in-Between-2.ensures c.names_only-operand.ensures (both_are _ _ _ _ _ c.both-in-Between.ensures c.names_only-low.ensures c.names_only-high.ensures))

pub names_only-returns-in-In : goal.names_only-returns-in-In
names_only-returns-in-In g t c = columns_as (λ (x : ColumnRef). is_of (map plan_entry_of c.args.entries.now) (c.args.step ∷ c.args.before.now) x.table) _ _ _ (in_is c.args.expression.now c.in-In.offset c.in-In.operand c.deref-in-In.result.now c.deref-in-In.ensures c.in-In.negated c.in-In.values c.in-In.is) c.names_only-in-In.ensures

pub names_only-returns-in-IsNull : goal.names_only-returns-in-IsNull
names_only-returns-in-IsNull g t c = columns_as (λ (x : ColumnRef). is_of (map plan_entry_of c.args.entries.now) (c.args.step ∷ c.args.before.now) x.table) _ _ _ (is_null_is c.args.expression.now c.in-IsNull.offset c.in-IsNull.operand c.deref-in-IsNull.result.now c.deref-in-IsNull.ensures c.in-IsNull.negated c.in-IsNull.is) c.names_only-in-IsNull.ensures

pub names_only-returns-in-Not : goal.names_only-returns-in-Not
names_only-returns-in-Not g t c = columns_as (λ (x : ColumnRef). is_of (map plan_entry_of c.args.entries.now) (c.args.step ∷ c.args.before.now) x.table) _ _ _ (not_is c.args.expression.now c.in-Not.offset c.in-Not.operand c.deref-in-Not.result.now c.deref-in-Not.ensures c.in-Not.is) c.names_only-in-Not.ensures

pub names_only-returns-in-And : goal.names_only-returns-in-And
names_only-returns-in-And g t c = columns_as (λ (x : ColumnRef). is_of (map plan_entry_of c.args.entries.now) (c.args.step ∷ c.args.before.now) x.table) _ _ _ (and_is c.args.expression.now c.in-And.offset c.in-And.members c.deref-in-And.result.now c.deref-in-And.ensures.value c.in-And.is) c.members_named.ensures

pub names_only-returns-in-Or : goal.names_only-returns-in-Or
names_only-returns-in-Or g t c = columns_as (λ (x : ColumnRef). is_of (map plan_entry_of c.args.entries.now) (c.args.step ∷ c.args.before.now) x.table) _ _ _ (or_is c.args.expression.now c.in-Or.offset c.in-Or.members c.deref-in-Or.result.now c.deref-in-Or.ensures.value c.in-Or.is) c.members_named-in-Or.ensures

pub names_only-returns-in-Cast : goal.names_only-returns-in-Cast
names_only-returns-in-Cast g t c = columns_as (λ (x : ColumnRef). is_of (map plan_entry_of c.args.entries.now) (c.args.step ∷ c.args.before.now) x.table) _ _ _ (cast_is c.args.expression.now c.in-Cast.offset c.in-Cast.operand c.deref-in-Cast.result.now c.deref-in-Cast.ensures c.in-Cast.to c.in-Cast.is) c.names_only-in-Cast.ensures

pub names_only-returns-in-Some : goal.names_only-returns-in-Some
names_only-returns-in-Some g t c = columns_as (λ (x : ColumnRef). is_of (map plan_entry_of c.args.entries.now) (c.args.step ∷ c.args.before.now) x.table) _ _ _ (case_other c.args.expression.now c.in-Case.offset c.in-Case.arms c.deref-in-Case.result.now c.deref-in-Case.ensures.value c.in-Case.otherwise c.in-Case.is c.in-Some.value c.in-Some.is c.deref-in-Some.result.now c.deref-in-Some.ensures) (both_are _ _ _ _ _ c.both-in-Some.ensures c.arms_named-arms.ensures c.names_only-in-Some.ensures)

pub names_only-returns-in-None : goal.names_only-returns-in-None
names_only-returns-in-None g t c = columns_as (λ (x : ColumnRef). is_of (map plan_entry_of c.args.entries.now) (c.args.step ∷ c.args.before.now) x.table) _ _ _ (case_none c.args.expression.now c.in-Case.offset c.in-Case.arms c.deref-in-Case.result.now c.deref-in-Case.ensures.value c.in-Case.otherwise c.in-Case.is c.in-None.is) (c.arms_named-arms.ensures ∙ sym (and-true _))

pub names_only-returns-in-Call : goal.names_only-returns-in-Call
names_only-returns-in-Call g t c = columns_as (λ (x : ColumnRef). is_of (map plan_entry_of c.args.entries.now) (c.args.step ∷ c.args.before.now) x.table) _ _ _ (call_is c.args.expression.now c.in-Call.offset c.in-Call.argument c.deref-in-Call.result.now c.deref-in-Call.ensures c.in-Call.aggregate c.in-Call.is) c.names_only-in-Call.ensures

-- ---- the walks over members and arms

pub members_named-loop-member-preserved : goal.members_named-loop-member-preserved
members_named-loop-member-preserved g t c = record {
  rest = members_step (λ (x : ColumnRef). is_of (map plan_entry_of c.args.entries.now) (c.args.step ∷ c.args.before.now) x.table) c.args.members.now c.loop-member.member-index c.member-item.result c.loop-member-test.true c.member-item.is c.loop-member.known _ c.names_only.result _ c.loop-member.invariant.rest c.names_only.ensures c.both-known.ensures;
  lighter = exprs_still c.args.members.now c.loop-member.member-index c.member-item.result c.loop-member-test.true c.member-item.is c.loop-member.invariant.lighter;
}

pub members_named-returns : goal.members_named-returns
members_named-returns g t c = members_over (λ (x : ColumnRef). is_of (map plan_entry_of c.args.entries.now) (c.args.step ∷ c.args.before.now) x.table) c.args.members.now c.loop-member.member-index c.loop-member.known _ c.loop-member.invariant.rest (omega (arith, c.loop-member-test.false))

pub arms_named-loop-arm-preserved : goal.arms_named-loop-arm-preserved
arms_named-loop-arm-preserved g t c = record {
  rest = arm_step (λ (x : ColumnRef). is_of (map plan_entry_of c.args.entries.now) (c.args.step ∷ c.args.before.now) x.table) c.args.arms.now c.loop-arm.arm-index c.arm-item.result c.loop-arm-test.true c.arm-item.is c.loop-arm.known _ c.both.result c.names_only-when.result c.names_only-result.result _ c.loop-arm.invariant.rest c.names_only-when.ensures c.names_only-result.ensures c.both.ensures c.both-known.ensures;
  lighter = arms_still c.args.arms.now c.loop-arm.arm-index c.arm-item.result c.loop-arm-test.true c.arm-item.is c.loop-arm.invariant.lighter;
}

pub arms_named-returns : goal.arms_named-returns
arms_named-returns g t c = arms_over_all (λ (x : ColumnRef). is_of (map plan_entry_of c.args.entries.now) (c.args.step ∷ c.args.before.now) x.table) c.args.arms.now c.loop-arm.arm-index c.loop-arm.known _ c.loop-arm.invariant.rest (omega (arith, c.loop-arm-test.false))

pub members_named-offset_bounds-members-member-index : goal.members_named-offset_bounds-members-member-index
members_named-offset_bounds-members-member-index g t c = c.loop-member.auto.member-index-end

pub members_named-bounds-members-member-index : goal.members_named-bounds-members-member-index
members_named-bounds-members-member-index g t c = c.loop-member-test.true

pub members_named-loop-member-smaller : goal.members_named-loop-member-smaller
members_named-loop-member-smaller g t c = falls (length c.args.members.now) c.loop-member.member-index c.loop-member-test.true

pub members_named-loop-member-init : goal.members_named-loop-member-init
members_named-loop-member-init g t c = record {
  rest = refl;
  lighter = le_refl (all_weight (exprs c.args.members.now));
}

pub arms_named-offset_bounds-arms-arm-index : goal.arms_named-offset_bounds-arms-arm-index
arms_named-offset_bounds-arms-arm-index g t c = c.loop-arm.auto.arm-index-end

pub arms_named-bounds-arms-arm-index : goal.arms_named-bounds-arms-arm-index
arms_named-bounds-arms-arm-index g t c = c.loop-arm-test.true

pub arms_named-loop-arm-smaller : goal.arms_named-loop-arm-smaller
arms_named-loop-arm-smaller g t c = falls (length c.args.arms.now) c.loop-arm.arm-index c.loop-arm-test.true

pub arms_named-loop-arm-init : goal.arms_named-loop-arm-init
arms_named-loop-arm-init g t c = record {
  rest = refl;
  lighter = le_refl (arms_weight (arms_of c.args.arms.now));
}
