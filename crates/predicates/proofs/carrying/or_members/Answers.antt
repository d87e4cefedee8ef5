use Rattle.std.proofs.Common.{sym, ap, ◌∙◌}
use Rattle.expr.specs.View.{bound_expr_of}
use Rattle.expr.proofs.Trees.{bound_exprs_hidden}
use Rattle.predicates.specs.Inward.{or_members}
use Rattle.predicates.proofs.carrying.or_members.Goals as goal

pub returns-in-Or : goal.returns-in-Or
returns-in-Or g c = sym (ap (λ e. or_members (bound_expr_of e)) (sym c.into_inner.ensures ∙ c.in-Or.is) ∙ bound_exprs_hidden c.in-Or.members)
