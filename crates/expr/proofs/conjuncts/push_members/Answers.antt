use Rattle.std.proofs.Common.{refl, arith}
use Rattle.expr.specs.View.{bound_expr_of}
use Rattle.memory.proofs.Lists.{pushed}
use Rattle.expr.proofs.Conjoined.{viewed_next, viewed_over}
use Rattle.expr.proofs.conjuncts.push_members.Goals as goal

pub loop-member-preserved : goal.loop-member-preserved
loop-member-preserved g c =
    viewed_next (λ e. bound_expr_of e) c.args.members.now c.loop-member.member-index _ _ c.loop-member.invariant c.member-item.result c.loop-member-test.true c.member-item.is _
    (pushed (λ e. bound_expr_of e.now) _ _ _ _ c.in_ok-push.ensures.items refl)

pub returns : goal.returns
returns g c = viewed_over (λ e. bound_expr_of e) c.args.members.now c.loop-member.member-index _ _ c.loop-member.invariant (omega (arith, c.loop-member-test.false))
