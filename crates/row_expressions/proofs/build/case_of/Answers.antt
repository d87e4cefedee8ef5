use Rattle.std.proofs.Common.{ap, ◌∙◌}
use Rattle.row_ast.specs.Ast.{Case, Value, Nothing}
use Rattle.row_ast.specs.View.{expr_of, arms}
use Rattle.row_ast.proofs.Trees.{arms_hidden}
use Rattle.row_expressions.proofs.build.case_of.Goals as goal

pub returns-in_ok-boxed-in-Nothing : goal.returns-in_ok-boxed-in-Nothing
returns-in_ok-boxed-in-Nothing g c = rw (c.in-Nothing.is) (ap expr_of c.in_ok-boxed-in-Nothing.ensures ∙ ap (λ as_. Case c.args.offset as_ Nothing) (arms_hidden c.into_vec-arms.result ∙ ap arms c.into_vec-arms.ensures))

pub returns-in_ok-boxed-in-Value : goal.returns-in_ok-boxed-in-Value
returns-in_ok-boxed-in-Value g c = rw (c.in-Value.is) (ap expr_of c.in_ok-boxed-in-Value.ensures ∙ ap (λ as_. Case c.args.offset as_ (Value (expr_of c.in-Value.value.value))) (arms_hidden c.into_vec-arms.result ∙ ap arms c.into_vec-arms.ensures))
