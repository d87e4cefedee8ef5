use Rattle.std.proofs.Common.{◌≡◌, drop, map}
use Rattle.expr.specs.View.{bound_item_of}
use Rattle.report.specs.QueryStages.{values_of}
use Rattle.report.specs.Pushed.{values_after}
use Rattle.report.proofs.outcomes.push_values.Given as goal

abbrev pub invariant-loop-item : goal.invariant-loop-item
invariant-loop-item g l = record {
  rows : l.rows.rows ≡ l.fn.rows.rows;
  values : values_after l.rows.unfinished (values_of (g.R.Row.cells l.row) l.role (map bound_item_of (drop l.item-index l.items))) ≡ values_after l.fn.rows.unfinished (values_of (g.R.Row.cells l.row) l.role (map bound_item_of l.items));
}
