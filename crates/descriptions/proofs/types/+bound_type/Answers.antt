use Rattle.std.proofs.Common.{◌≡◌, ◌∙◌, map, ap, arith}
use Rattle.expr.specs.View.{bound_arms, bound_expr_of}
use Rattle.expr.proofs.Walks.{arms_still, case_lighter, case_none, case_some}
use Rattle.scope.specs.View.{entry_of}
use Rattle.descriptions.specs.Types.{arms_type, bound_type}
use Rattle.descriptions.proofs.Walks.{arm_step, arms_end, described_none, described_some}
use Rattle.descriptions.proofs.types.+bound_type.Goals as goal

pub arms_type-loop-arm-preserved : goal.arms_type-loop-arm-preserved
arms_type-loop-arm-preserved g t c = record {
  rest = arm_step (map (λ e. entry_of e) c.args.entries.now) c.args.arms.now c.loop-arm.arm-index c.loop-arm.known (arms_type (map (λ e. entry_of e) c.args.entries.now) (bound_arms c.args.arms.now)) c.loop-arm.invariant.rest c.arm-item.result c.loop-arm-test.true c.arm-item.is c.bound_type.result c.first_type-known.result c.bound_type.ensures c.first_type-known.ensures;
  lighter = arms_still c.args.arms.now c.loop-arm.arm-index c.arm-item.result c.loop-arm-test.true c.arm-item.is c.loop-arm.invariant.lighter;
}

pub arms_type-returns : goal.arms_type-returns
arms_type-returns g t c = arms_end (map (λ e. entry_of e) c.args.entries.now) c.args.arms.now c.loop-arm.arm-index c.loop-arm.known (arms_type (map (λ e. entry_of e) c.args.entries.now) (bound_arms c.args.arms.now)) c.loop-arm.invariant.rest (omega (arith, c.loop-arm-test.false))

pub bound_type-arms_type-known-requires : goal.bound_type-arms_type-known-requires
bound_type-arms_type-known-requires g t c κs within = let w = case_lighter c.args.expression.now c.in-Case.offset c.in-Case.arms c.deref.result.now c.deref.ensures.value c.in-Case.otherwise c.in-Case.is in (omega (arith, c.decreases, w), within)

pub bound_type-returns-in-Some : goal.bound_type-returns-in-Some
bound_type-returns-in-Some g t c =
    let is = case_some c.args.expression.now c.in-Case.offset c.in-Case.arms c.deref.result.now c.deref.ensures.value c.in-Case.otherwise c.in-Case.is c.in-Some.value c.in-Some.is in
    described_some (map (λ e. entry_of e) c.args.entries.now) _ _ _ c.arms_type-known.result c.first_type.result c.arms_type-known.ensures c.deref-in-Some.result.now c.in-Some.value.value c.deref-in-Some.ensures is c.bound_type.result c.bound_type.ensures c.first_type.ensures

pub bound_type-returns-in-None : goal.bound_type-returns-in-None
bound_type-returns-in-None g t c =
    let is = case_none c.args.expression.now c.in-Case.offset c.in-Case.arms c.deref.result.now c.deref.ensures.value c.in-Case.otherwise c.in-Case.is c.in-None.is in
    described_none (map (λ e. entry_of e) c.args.entries.now) _ _ _ c.arms_type-known.result c.first_type-in-None.result c.arms_type-known.ensures is c.first_type-in-None.ensures
