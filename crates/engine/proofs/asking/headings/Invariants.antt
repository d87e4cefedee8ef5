use Rattle.std.proofs.Common.{◌≡◌, ◌++◌, drop, map}
use Rattle.expr.specs.View.{bound_item_of}
use Rattle.engine.specs.Answer.{headings}
use Rattle.engine.proofs.asking.headings.Given as goal

abbrev pub invariant-loop-item : goal.invariant-loop-item
invariant-loop-item g l = l.headings ++ headings (map (λ i. bound_item_of i) (drop l.item-index l.items)) ≡ headings (map (λ i. bound_item_of i) l.items)
