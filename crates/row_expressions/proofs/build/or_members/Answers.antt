use Rattle.std.proofs.Common.{sym, ap, ◌∙◌}
use Rattle.row_ast.specs.Ast as ast
use Rattle.row_ast.specs.View.{expr_of}
use Rattle.row_ast.proofs.Trees.{members_hidden}
use Rattle.row_expressions.proofs.build.or_members.Goals as goal

pub returns-in-Or : goal.returns-in-Or
returns-in-Or g c = sym (ap (λ e. ast.or_members (expr_of e)) (sym c.into_inner.ensures ∙ c.in-Or.is) ∙ members_hidden c.in-Or.members)
