use Rattle.std.proofs.Common.{◌≡◌, drop, map}
use Rattle.row_ast.specs.View.{select_item_of}
use Rattle.scope.specs.View.{entry_of}
use Rattle.scope.specs.Lookup.{everywhere}
use Rattle.typing.specs.Grouping.{misplaced}
use Rattle.expr.specs.Offsets.{least_of_all}
use Rattle.expr.proofs.Leasts.{least_after}
use Rattle.typing.proofs.clauses.misplaced_items.Given as goal

abbrev pub invariant-loop-item : goal.invariant-loop-item
invariant-loop-item g l =
    least_after (λ i. misplaced (map (λ e. entry_of e) l.entries) (everywhere (map (λ e. entry_of e) l.entries)) l.group_by l.of_groups i.value) l.known (map (λ i. select_item_of i) (drop l.item-index l.items))
    ≡ least_of_all (map (λ i. misplaced (map (λ e. entry_of e) l.entries) (everywhere (map (λ e. entry_of e) l.entries)) l.group_by l.of_groups i.value) (map (λ i. select_item_of i) l.items))
