use Rattle.std.proofs.Common.{sym, ap, ◌∙◌}
use Rattle.row_ast.specs.Ast as ast
use Rattle.row_ast.specs.View.{expr_of}
use Rattle.row_ast.proofs.Trees.{members_hidden}
use Rattle.row_expressions.proofs.build.and_members.Goals as goal

pub returns-in-And : goal.returns-in-And
returns-in-And g c = sym (ap (λ e. ast.and_members (expr_of e)) (sym c.into_inner.ensures ∙ c.in-And.is) ∙ members_hidden c.in-And.members)
