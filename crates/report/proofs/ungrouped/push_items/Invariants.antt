use Rattle.std.proofs.Common.{◌≡◌, drop, map}
use Rattle.groups.specs.Members.{all_of}
use Rattle.row_marks.specs.Marks.{outcome_in}
use Rattle.report.specs.Pushed.{values_after}
use Rattle.report.proofs.ungrouped.push_items.Given as goal

abbrev pub invariant-loop-item : goal.invariant-loop-item
invariant-loop-item g l = record {
  rows : l.rows.rows ≡ l.fn.rows.rows;
  values : values_after l.rows.unfinished (all_of (map (λ m. outcome_in (g.R.Row.cells l.row) l.role l.combination m) (drop l.item-index l.items))) ≡ values_after l.fn.rows.unfinished (all_of (map (λ m. outcome_in (g.R.Row.cells l.row) l.role l.combination m) l.items));
}
