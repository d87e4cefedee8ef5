use Rattle.std.proofs.Common.{◌∷◌, ◌++◌, ◌∙◌, [], map, ap}
use Rattle.row_ast.specs.View.{expr_of}
use Rattle.row_expressions.proofs.build.alone.Goals as goal

pub returns : goal.returns
returns g c = ap (map (λ e. expr_of e)) (c.into_vec.ensures ∙ c.in_ok-push.ensures.ok ∙ ap (λ l. l ++ c.args.member ∷ []) c.new-members.ensures)
