use Rattle.std.proofs.Common.{ℕ, ap, ◌∙◌}
use Rattle.row_ast.specs.Ast.{Expr, Or}
use Rattle.row_ast.specs.View.{expr_of}
use Rattle.row_ast.proofs.Trees.{exprs_hidden}
use Rattle.row_expressions.proofs.build.or_of.Goals as goal

pub returns : goal.returns
returns g c = ap (λ (e : Expr). let p : ℕ × Expr = (c.args.start, e) in p) (ap expr_of c.in_ok-boxed.ensures ∙ ap (Or c.args.offset) (exprs_hidden c.args.members))
