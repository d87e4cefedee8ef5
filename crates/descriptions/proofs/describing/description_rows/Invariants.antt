use Rattle.std.proofs.Common.{◌≡◌, ◌++◌, [], drop, map}
use Rattle.expr.specs.View.{bound_item_of}
use Rattle.scope.specs.View.{entry_of}
use Rattle.descriptions.specs.Descriptions.{description_row}
use Rattle.descriptions.proofs.describing.description_rows.Given as goal

abbrev pub invariant-loop-item : goal.invariant-loop-item
invariant-loop-item g l = record {
  unfinished : l.rows.unfinished ≡ [];
  rest : l.rows.rows ++ map (description_row (map (λ e. entry_of e) l.entries)) (map (λ i. bound_item_of i) (drop l.item-index l.items)) ≡ map (description_row (map (λ e. entry_of e) l.entries)) (map (λ i. bound_item_of i) l.items);
}
