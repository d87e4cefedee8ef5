use Rattle.std.proofs.Common.{◌≡◌, ◌∷◌, ap, map, ◌∙◌}
use Rattle.expr.specs.View.{aggregate_calls_of}
use Rattle.groups.specs.Stages.{gives}
use Rattle.groups.proofs.Going.{going_on, gives_some, stage_start, stage_next}
use Rattle.groups.specs.Running.{finished_row}
use Rattle.groups.specs.View.{group_row_of, running_in}
use Rattle.groups.proofs.groups.rows_by_key.Goals as goal

pub loop-key-init : goal.loop-key-init
loop-key-init g c =
    let start = stage_start (λ r. group_row_of r) c.new-stage.result (map (λ r. gives (finished_row (aggregate_calls_of c.args.calls.now) r)) (running_in c.args.groups.entries)) c.new-stage.ensures.given c.new-stage.ensures.least in
    ap (λ es. going_on c.new-stage.result.least (map (λ r. group_row_of r) c.new-stage.result.given) (map (λ r. gives (finished_row (aggregate_calls_of c.args.calls.now) r)) (running_in es))) c.into_iter-key-iterator.ensures.into_iter_gives.0
    ∙ start

pub loop-key-preserved : goal.loop-key-preserved
loop-key-preserved g c =
    let step : c.loop-key.key-iterator ≡ (c.in-Some.key, c.in-Some.totals) ∷ c.next.new.self = c.in-Some.ensures.steps in
    stage_next (λ r. group_row_of r) _ _ c.loop-key.stage c.add.new.self _ _ _ (ap (λ es. map (λ r. gives (finished_row (aggregate_calls_of c.args.calls.now) r)) (running_in es)) step)
    (rw c.gives.ensures (gives_some (λ r. group_row_of r) _ _ (rw c.as_slice.ensures.value at c.row_of_group.ensures))) c.in_ok-add.ensures.added c.loop-key.invariant
