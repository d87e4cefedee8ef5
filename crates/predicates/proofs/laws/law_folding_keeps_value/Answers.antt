use Rattle.predicates.specs.Folded.{folded_node}
use Rattle.predicates.proofs.Keeping.{movable_kept, meaning_kept}
use Rattle.predicates.proofs.NodeForms.{folded_node_movable, folded_node_meaning}
use Rattle.predicates.proofs.laws.law_folding_keeps_value.Goals as goal

pub returns : goal.returns
returns c = record {
  stays_movable = movable_kept folded_node folded_node_movable;
  same_value = λ e h cells role. meaning_kept folded_node folded_node_movable cells role (λ e h. folded_node_meaning cells role e) e h;
}
