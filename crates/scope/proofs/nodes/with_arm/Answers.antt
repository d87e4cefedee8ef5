use Rattle.expr.specs.View.{bound_arm_pair}
use Rattle.scope.proofs.Binds.{extended_given}
use Rattle.scope.proofs.nodes.with_arm.Goals as goal

pub returns : goal.returns
returns g c = λ x y h k. extended_given bound_arm_pair c.args.all c.arm.result _ c.extended.result c.extended.ensures (c.arm.ensures _ _ h k)
