use Rattle.std.proofs.Common.{◌∙◌, ap, sym, length}
use Rattle.std.proofs.lemmas.List.{length-map}
use Rattle.row_ast.specs.Ast as ast
use Rattle.row_ast.specs.View.{expr_of}
use Rattle.row_ast.proofs.Trees.{members_hidden}
use Rattle.syntax.proofs.limits.members.Goals as goal

pub returns-in-And : goal.returns-in-And
returns-in-And g c =
    c.len.ensures ∙ c.in-And.members.ok.0
    ∙ sym (ap (λ e. length (ast.and_members (expr_of e))) c.in-And.is ∙ ap length (members_hidden c.in-And.members) ∙ length-map c.in-And.members.items expr_of)
