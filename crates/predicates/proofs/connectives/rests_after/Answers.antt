use Rattle.std.proofs.Common.{ap, ◌∙◌, sym, option_map, arith}
use Rattle.expr.specs.View.{bound_expr_of}
use Rattle.predicates.proofs.Parts.{rests_first, rests_next, rests_over, no_rest}
use Rattle.predicates.proofs.connectives.rests_after.Goals as goal

pub loop-member-init : goal.loop-member-init
loop-member-init g c = rests_first (bound_expr_of c.args.first.now) c.args.members.now c.new-rests.result.items c.new-rests.ensures.items

pub returns-in-None : goal.returns-in-None
returns-in-None g c =
    no_rest (bound_expr_of c.args.first.now) c.args.members.now c.loop-member.member-index _ c.loop-member.invariant c.member-item.result c.loop-member-test.true c.member-item.is
    (sym (ap (option_map (λ b. bound_expr_of b.value)) c.in-None.is) ∙ c.in_ok-rest.ensures)

pub loop-member-preserved : goal.loop-member-preserved
loop-member-preserved g c =
    rests_next (bound_expr_of c.args.first.now) c.args.members.now c.loop-member.member-index _ c.loop-member.invariant c.member-item.result c.loop-member-test.true c.member-item.is (bound_expr_of c.in-Some.rest.value)
    (sym (ap (option_map (λ b. bound_expr_of b.value)) c.in-Some.is) ∙ c.in_ok-rest.ensures) _ c.in_ok-extend-in-Some.ensures

pub returns : goal.returns
returns g c = rests_over (bound_expr_of c.args.first.now) c.args.members.now c.loop-member.member-index _ c.loop-member.invariant (omega (arith, c.loop-member-test.false))
