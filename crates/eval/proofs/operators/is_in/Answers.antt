use Rattle.std.proofs.Common.{arith}
use Rattle.value.specs.Datum.{datum_of}
use Rattle.eval.proofs.Members.{in_over, in_step}
use Rattle.eval.proofs.operators.is_in.Goals as goal

pub loop-member-preserved : goal.loop-member-preserved
loop-member-preserved g c = record {
  rest = in_step (datum_of c.args.value.now) c.args.members.now c.loop-member.member-index c.loop-member.known c.loop-member.invariant.rest c.member-item.result c.loop-member-test.true c.member-item.is c.equals.result _ c.equals.ensures c.or3-known.ensures;
}

pub returns : goal.returns
returns g c = in_over (datum_of c.args.value.now) c.args.members.now c.loop-member.member-index c.loop-member.known c.loop-member.invariant.rest (omega (arith, c.loop-member-test.false))
