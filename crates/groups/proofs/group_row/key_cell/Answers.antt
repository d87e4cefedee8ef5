use Rattle.std.proofs.Common.{refl}
use Rattle.std.proofs.lemmas.Slice.Zip.{either_empty_from_Zip}
use Rattle.value.specs.Datum.{row_of}
use Rattle.groups.proofs.Cells.{no_key_cell, either_map}
use Rattle.groups.proofs.group_row.key_cell.Goals as goal

pub returns : goal.returns
returns g c = no_key_cell _ _ c.args.id _ (either_map (λ xs. xs) (λ ys. row_of ys) refl refl _ _ (either_empty_from_Zip _ c.next.new.self _ c.in-None.is c.next.ensures.steps)) c.loop-column.invariant
