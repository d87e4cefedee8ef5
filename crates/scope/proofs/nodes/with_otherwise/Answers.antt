use Rattle.std.proofs.Common.{Box, refl}
use Rattle.expr.specs.View.{bound_expr_of}
use Rattle.expr.specs.declared.bound.BoundExpr.{BoundExpr}
use Rattle.scope.proofs.Binds.{some_made, otherwise_failed}
use Rattle.scope.proofs.nodes.with_otherwise.Goals as goal

pub returns-in-Ok-otherwise : goal.returns-in-Ok-otherwise
returns-in-Ok-otherwise g c =
    λ stated last h i. c.made.ensures _ (some_made c.args.offset c.in-Ok.arms stated (rw c.in-Ok.is at h) last c.in-Ok-otherwise.value (rw c.in-Ok-otherwise.is at i) _ refl)

pub returns-in-Err-otherwise : goal.returns-in-Err-otherwise
returns-in-Err-otherwise g c =
    λ stated last h i.
    otherwise_failed c.args.offset c.in-Ok.arms stated (rw c.in-Ok.is at h) (λ (b : Box (BoundExpr g.row.A.Denot) g.row.A.Denot). bound_expr_of b.value) (λ (b : Box (BoundExpr g.row.A.Denot) g.row.A.Denot). bound_expr_of b.value) c.in-Err-otherwise.failure last
    (rw c.in-Err-otherwise.is at i)
