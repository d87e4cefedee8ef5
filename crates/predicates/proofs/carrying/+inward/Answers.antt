use Rattle.std.proofs.Common.{ap, ◌∙◌, arith}
use Rattle.expr.specs.Weights.{weight}
use Rattle.expr.specs.View.{bound_exprs}
use Rattle.expr.proofs.Copied.{copied_as}
use Rattle.expr.proofs.Walks.{and_is, or_is, exprs_still}
use Rattle.predicates.specs.Inward.{carried}
use Rattle.predicates.proofs.Joining.{carried_and, carried_or, carried_next, carried_over}
use Rattle.predicates.proofs.carrying.+inward.Goals as goal

pub carry-carry_all-requires : goal.carry-carry_all-requires
carry-carry_all-requires g t c κs within = let w = ap weight (and_is c.args.expression.now c.in-And.offset c.in-And.members c.deref.result.now c.deref.ensures.value c.in-And.is) in (omega (arith, c.decreases, w), within)

pub carry-carry_all-requires-in-Or : goal.carry-carry_all-requires-in-Or
carry-carry_all-requires-in-Or g t c κs within = let w = ap weight (or_is c.args.expression.now c.in-Or.offset c.in-Or.members c.deref-in-Or.result.now c.deref-in-Or.ensures.value c.in-Or.is) in (omega (arith, c.decreases, w), within)

pub carry-returns-in-And : goal.carry-returns-in-And
carry-returns-in-And g t c =
    copied_as c.joined.result _ _ (ap (carried c.args.negate) (and_is c.args.expression.now c.in-And.offset c.in-And.members c.deref.result.now c.deref.ensures.value c.in-And.is) ∙ carried_and c.args.negate c.in-And.offset (bound_exprs c.deref.result.now))
    (c.joined.ensures _ c.carry_all.ensures)

pub carry-returns-in-Or : goal.carry-returns-in-Or
carry-returns-in-Or g t c =
    copied_as c.joined-in-Or.result _ _ (ap (carried c.args.negate) (or_is c.args.expression.now c.in-Or.offset c.in-Or.members c.deref-in-Or.result.now c.deref-in-Or.ensures.value c.in-Or.is) ∙ carried_or c.args.negate c.in-Or.offset (bound_exprs c.deref-in-Or.result.now))
    (c.joined-in-Or.ensures _ c.carry_all-in-Or.ensures)

pub carry_all-loop-member-preserved : goal.carry_all-loop-member-preserved
carry_all-loop-member-preserved g t c = record {
  rest = carried_next c.args.is_conjunction c.args.negate c.args.members.now c.loop-member.member-index _ _ c.loop-member.invariant.rest c.member-item.result c.loop-member-test.true c.member-item.is _ c.in-Ok.ensures _ c.in_ok-extend-in-Ok.ensures;
  lighter = exprs_still c.args.members.now c.loop-member.member-index c.member-item.result c.loop-member-test.true c.member-item.is c.loop-member.invariant.lighter;
}

pub carry_all-returns : goal.carry_all-returns
carry_all-returns g t c = carried_over c.args.is_conjunction c.args.negate c.args.members.now c.loop-member.member-index _ _ c.loop-member.invariant.rest (omega (arith, c.loop-member-test.false))
