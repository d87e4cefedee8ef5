use Rattle.std.proofs.Common.{◌≡◌, ◌≤◌, true, length, drop, map, Ok}
use Rattle.expr.specs.View.{bound_expr_of, bound_exprs}
use Rattle.expr.specs.Weights.{weight, all_weight}
use Rattle.eval.specs.Meaning.{conjunction, disjunction}
use Rattle.tuples.specs.Rows.{cells_of}
use Rattle.columns.specs.Rows.{types_of}
use Rattle.lane_filters.specs.ByLanes.{all_by_lanes}
use Rattle.lane_filters.proofs.filters.+truths.Given as goal

abbrev pub decreases-evaluated : goal.decreases-evaluated
decreases-evaluated g l = weight (bound_expr_of l.expression.now)

abbrev pub decreases-conjunction : goal.decreases-conjunction
decreases-conjunction g l = all_weight (bound_exprs l.members.now)

abbrev pub decreases-disjunction : goal.decreases-disjunction
decreases-disjunction g l = all_weight (bound_exprs l.members.now)

abbrev pub invariant-conjunction-loop-left : goal.invariant-conjunction-loop-left
invariant-conjunction-loop-left g l = record {
  within : l.left ≤ length l.members;
  exact : all_by_lanes (types_of l.table.columns) (bound_exprs (drop l.left l.members)) ≡ true;
  known : map (λ row. conjunction (cells_of row) l.role.name.now (bound_exprs (drop l.left l.members))) l.table.rows ≡ map Ok l.known;
}

abbrev pub invariant-disjunction-loop-left : goal.invariant-disjunction-loop-left
invariant-disjunction-loop-left g l = record {
  within : l.left ≤ length l.members;
  exact : all_by_lanes (types_of l.table.columns) (bound_exprs (drop l.left l.members)) ≡ true;
  known : map (λ row. disjunction (cells_of row) l.role.name.now (bound_exprs (drop l.left l.members))) l.table.rows ≡ map Ok l.known;
}

abbrev pub decreases-conjunction-loop-left : goal.decreases-conjunction-loop-left
decreases-conjunction-loop-left g l = l.left

abbrev pub decreases-disjunction-loop-left : goal.decreases-disjunction-loop-left
decreases-disjunction-loop-left g l = l.left
