use Rattle.std.proofs.Common.{refl}
use Rattle.std.proofs.lemmas.Slice.Zip.{either_empty_from_Zip}
use Rattle.value.specs.Datum.{row_of}
use Rattle.expr.specs.View.{aggregate_calls_of}
use Rattle.groups.proofs.Cells.{no_total, either_map}
use Rattle.groups.proofs.group_row.total_at.Goals as goal

pub returns : goal.returns
returns g c = no_total _ _ c.args.offset _ (either_map (λ xs. aggregate_calls_of xs) (λ ys. row_of ys) refl refl _ _ (either_empty_from_Zip _ c.next.new.self _ c.in-None.is c.next.ensures.steps)) c.loop-call.invariant
