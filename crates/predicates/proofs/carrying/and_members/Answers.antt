use Rattle.std.proofs.Common.{sym, ap, ◌∙◌}
use Rattle.expr.specs.View.{bound_expr_of}
use Rattle.expr.proofs.Trees.{bound_exprs_hidden}
use Rattle.predicates.specs.Inward.{and_members}
use Rattle.predicates.proofs.carrying.and_members.Goals as goal

pub returns-in-And : goal.returns-in-And
returns-in-And g c = sym (ap (λ e. and_members (bound_expr_of e)) (sym c.into_inner.ensures ∙ c.in-And.is) ∙ bound_exprs_hidden c.in-And.members)
