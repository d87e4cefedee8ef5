use Rattle.std.proofs.Common.{ap, ◌∙◌}
use Rattle.expr.specs.View.{bound_exprs}
use Rattle.predicates.specs.Inward.{before}
use Rattle.predicates.proofs.Joining.{appended}
use Rattle.predicates.proofs.carrying.extend.Goals as goal

pub returns : goal.returns
returns g c = ap bound_exprs c.in_ok-append.ensures.items ∙ appended c.args.members.now.items c.in_ok-more.more.items ∙ ap (before (bound_exprs c.args.members.now.items)) c.in_ok-more.ensures
