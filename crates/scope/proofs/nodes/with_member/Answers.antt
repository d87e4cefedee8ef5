use Rattle.std.proofs.Common.{Ok, Err}
use Rattle.expr.specs.View.{bound_expr_of}
use Rattle.scope.proofs.Binds.{extended_given}
use Rattle.scope.proofs.nodes.with_member.Goals as goal

pub returns-in-Ok : goal.returns-in-Ok
returns-in-Ok g c = λ x h. extended_given bound_expr_of c.args.all (Ok c.into_inner.result) x c.extended.result c.extended.ensures (rw c.into_inner.ensures (rw c.in-Ok.is at h))

pub returns-in-Err : goal.returns-in-Err
returns-in-Err g c = λ x h. extended_given bound_expr_of c.args.all (Err c.in-Err.failure) x c.extended-in-Err.result c.extended-in-Err.ensures (rw c.in-Err.is at h)
