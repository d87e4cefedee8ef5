use Rattle.std.proofs.Common.{◌≡◌, drop, map}
use Rattle.expr.specs.View.{bound_expr_of}
use Rattle.report.specs.QueryStages.{keeps}
use Rattle.report.proofs.outcomes.keeps.Given as goal

abbrev pub invariant-loop-condition : goal.invariant-loop-condition
invariant-loop-condition g l = keeps (g.R.Row.cells l.row) l.role (map (λ e. bound_expr_of e.now) (drop l.condition-index l.conditions)) ≡ keeps (g.R.Row.cells l.row) l.role (map (λ e. bound_expr_of e.now) l.conditions)
