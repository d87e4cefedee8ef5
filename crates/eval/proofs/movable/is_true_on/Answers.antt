use Rattle.std.proofs.Common.{◌∙◌, Some, ap, sym}
use Rattle.expr.specs.View.{bound_expr_of}
use Rattle.eval.specs.Meaning.{is_true_outcome}
use Rattle.eval.proofs.Comparing.{compared_is}
use Rattle.eval.proofs.movable.is_true_on.Goals as goal

pub returns-in-Some : goal.returns-in-Some
returns-in-Some g c = c.is_comparison_true.ensures ∙ sym (compared_is (g.R.Row.cells c.args.row.now) c.args.role.now (bound_expr_of c.args.expression.now) (Some (c.in-Some.operator, c.in-Some.one, c.in-Some.other)) c.in-Some.ensures)

pub returns-in-None : goal.returns-in-None
returns-in-None g c = c.is_true.ensures ∙ ap is_true_outcome c.eval_movable.ensures
