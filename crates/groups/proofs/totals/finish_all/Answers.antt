use Rattle.std.proofs.Common.{ap, ap₂, sym, refl, ◌∙◌, Ok}
use Rattle.std.proofs.lemmas.List.{append-nil}
use Rattle.std.proofs.lemmas.Slice.Zip.{Zip-more, either_empty_from_Zip}
use Rattle.value.specs.Datum.{datum, row_of}
use Rattle.expr.specs.View.{aggregate_calls_of}
use Rattle.memory.proofs.Each.{after}
use Rattle.groups.specs.Running.{all_finished}
use Rattle.groups.specs.View.{totals_of}
use Rattle.groups.proofs.Cells.{either_map}
use Rattle.groups.proofs.Putting.{put_step}
use Rattle.groups.proofs.RunningTotals.{none_finished}
use Rattle.groups.proofs.totals.finish_all.Goals as goal

pub loop-call-preserved : goal.loop-call-preserved
loop-call-preserved g c =
    let more = Zip-more c.loop-call.call-iterator c.next.new.self _ (c.in-Some.call, c.in-Some.total) c.in-Some.is c.next.ensures.steps in
    put_step (λ v. datum v) c.loop-call.values _ _ _ _ _ _ (ap₂ (λ l m. all_finished (aggregate_calls_of l) (totals_of m)) more.0 more.1) c.loop-call.invariant c.in_ok-finish.ensures c.in_ok-push.ensures.ok

pub returns : goal.returns
returns g c =
    let ended = either_map (λ xs. aggregate_calls_of xs) (λ ys. totals_of ys) refl refl _ _ (either_empty_from_Zip c.loop-call.call-iterator c.next.new.self _ c.in-None.is c.next.ensures.steps) in
    sym c.loop-call.invariant ∙ ap (after (row_of c.loop-call.values)) (none_finished _ _ ended) ∙ ap Ok (append-nil _)
