use Rattle.std.proofs.Common.{◌∙◌, ◌-◌, map, ap, sym, arith}
use Rattle.expr.specs.View.{bound_expr_of}
use Rattle.expr.specs.Weights.{weight}
use Rattle.expr.proofs.Walks.{and_is, or_is, exprs_lighter, exprs_still}
use Rattle.expr.proofs.Operands.{not_is}
use Rattle.memory.proofs.Lighter.{lighter}
use Rattle.stats.specs.Factors as spec
use Rattle.stats.specs.Factors.{million}
use Rattle.stats.specs.View.{stats_of}
use Rattle.stats.proofs.Shares.{all_over, all_step, any_over, any_step}
use Rattle.stats.proofs.factors.+factor.Goals as goal

pub factor-all_factor-requires : goal.factor-all_factor-requires
factor-all_factor-requires g t c κs within = let w = ap weight (and_is c.args.condition.now c.in-And.offset c.in-And.members c.deref-in-And.result.now c.deref-in-And.ensures.value c.in-And.is) in (omega (arith, c.decreases, w), within)

pub factor-any_factor-requires : goal.factor-any_factor-requires
factor-any_factor-requires g t c κs within = let w = ap weight (or_is c.args.condition.now c.in-Or.offset c.in-Or.members c.deref-in-Or.result.now c.deref-in-Or.ensures.value c.in-Or.is) in (omega (arith, c.decreases, w), within)

pub factor-factor-requires : goal.factor-factor-requires
factor-factor-requires g t c κs within = (lighter (weight (bound_expr_of c.deref-in-Not.result.now)) _ t c.decreases (ap weight (not_is c.args.condition.now c.in-Not.offset c.in-Not.operand c.deref-in-Not.result.now c.deref-in-Not.ensures c.in-Not.is)), within)

pub factor-returns-in-And-clause-value : goal.factor-returns-in-And-clause-value
factor-returns-in-And-clause-value g t c =
    c.all_factor.ensures.value
    ∙ sym (ap (spec.factor (map (λ s. stats_of s.now) c.args.statistics.now)) (and_is c.args.condition.now c.in-And.offset c.in-And.members c.deref-in-And.result.now c.deref-in-And.ensures.value c.in-And.is))

pub factor-returns-in-Or-clause-value : goal.factor-returns-in-Or-clause-value
factor-returns-in-Or-clause-value g t c =
    c.any_factor.ensures.value
    ∙ sym (ap (spec.factor (map (λ s. stats_of s.now) c.args.statistics.now)) (or_is c.args.condition.now c.in-Or.offset c.in-Or.members c.deref-in-Or.result.now c.deref-in-Or.ensures.value c.in-Or.is))

pub factor-returns-in-Not-clause-value : goal.factor-returns-in-Not-clause-value
factor-returns-in-Not-clause-value g t c =
    ap (λ f. million - f) c.factor.ensures.value
    ∙ sym (ap (spec.factor (map (λ s. stats_of s.now) c.args.statistics.now)) (not_is c.args.condition.now c.in-Not.offset c.in-Not.operand c.deref-in-Not.result.now c.deref-in-Not.ensures c.in-Not.is))

pub factor-returns-in-Literal-clause-value : goal.factor-returns-in-Literal-clause-value
factor-returns-in-Literal-clause-value g t c =
    let of = map (λ s. stats_of s.now) c.args.statistics.now in
    c.literal.ensures.value of ∙ sym (ap (λ e. spec.factor of (bound_expr_of e)) c.in-Literal.is)

pub all_factor-factor-one-requires : goal.all_factor-factor-one-requires
all_factor-factor-one-requires g t c κs within = let w = exprs_lighter c.args.members.now c.loop-member.member-index c.member-item.result c.loop-member-test.true c.member-item.is c.loop-member.invariant.lighter in (omega (arith, c.decreases, w), within)

pub any_factor-factor-one-requires : goal.any_factor-factor-one-requires
any_factor-factor-one-requires g t c κs within = let w = exprs_lighter c.args.members.now c.loop-member.member-index c.member-item.result c.loop-member-test.true c.member-item.is c.loop-member.invariant.lighter in (omega (arith, c.decreases, w), within)

pub all_factor-loop-member-preserved : goal.all_factor-loop-member-preserved
all_factor-loop-member-preserved g t c = record {
  rest =
      all_step (map (λ s. stats_of s.now) c.args.statistics.now) c.args.members.now c.loop-member.member-index c.loop-member.all c.member-item.result c.loop-member-test.true c.member-item.is c.factor-one.result c.both-all.result c.factor-one.ensures.value
      c.both-all.ensures.value
      ∙ c.loop-member.invariant.rest;
  parts = c.both-all.ensures.parts;
  lighter = exprs_still c.args.members.now c.loop-member.member-index c.member-item.result c.loop-member-test.true c.member-item.is c.loop-member.invariant.lighter;
}

pub any_factor-loop-member-preserved : goal.any_factor-loop-member-preserved
any_factor-loop-member-preserved g t c = record {
  rest =
      any_step (map (λ s. stats_of s.now) c.args.statistics.now) c.args.members.now c.loop-member.member-index c.loop-member.any c.member-item.result c.loop-member-test.true c.member-item.is c.factor-one.result c.either-any.result c.factor-one.ensures.value
      c.either-any.ensures.value
      ∙ c.loop-member.invariant.rest;
  parts = c.either-any.ensures.parts;
  lighter = exprs_still c.args.members.now c.loop-member.member-index c.member-item.result c.loop-member-test.true c.member-item.is c.loop-member.invariant.lighter;
}

pub all_factor-loop-member-smaller : goal.all_factor-loop-member-smaller
all_factor-loop-member-smaller g t c = omega (arith, c.loop-member-test.true)

pub any_factor-loop-member-smaller : goal.any_factor-loop-member-smaller
any_factor-loop-member-smaller g t c = omega (arith, c.loop-member-test.true)

pub all_factor-returns-clause-value : goal.all_factor-returns-clause-value
all_factor-returns-clause-value g t c = sym (all_over (map (λ s. stats_of s.now) c.args.statistics.now) c.args.members.now c.loop-member.member-index c.loop-member.all c.loop-member-test.false) ∙ c.loop-member.invariant.rest

pub any_factor-returns-clause-value : goal.any_factor-returns-clause-value
any_factor-returns-clause-value g t c = sym (any_over (map (λ s. stats_of s.now) c.args.statistics.now) c.args.members.now c.loop-member.member-index c.loop-member.any c.loop-member-test.false) ∙ c.loop-member.invariant.rest
