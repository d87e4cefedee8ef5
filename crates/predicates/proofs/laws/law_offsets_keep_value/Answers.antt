use Rattle.predicates.specs.Offsets.{without_offset}
use Rattle.predicates.proofs.Keeping.{movable_kept, meaning_kept}
use Rattle.predicates.proofs.NodeForms.{without_offset_movable, without_offset_meaning}
use Rattle.predicates.proofs.laws.law_offsets_keep_value.Goals as goal

pub returns : goal.returns
returns c = record {
  stays_movable = movable_kept without_offset without_offset_movable;
  same_value = λ e h cells role. meaning_kept without_offset without_offset_movable cells role (without_offset_meaning cells role) e h;
}
