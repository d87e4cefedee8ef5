use Rattle.std.proofs.Common.{ap, Err}
use Rattle.expr.specs.View.{bound_expr_of}
use Rattle.eval.proofs.Faultless.{faultless}
use Rattle.eval.proofs.Conditions.{never_fails}
use Rattle.eval.proofs.movable.eval_movable.Goals as goal

pub returns-in-Err : goal.returns-in-Err
returns-in-Err g c = absurd (never_fails c.in-Err.field-0 _ c.in-Err.ensures.value (faultless (g.R.Row.cells c.args.row.now) c.args.role.now (bound_expr_of c.args.expression.now) c.requires) (λ q. c.in-Err.ensures.memory c.requires (ap Err q)))
