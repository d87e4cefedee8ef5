use Rattle.std.proofs.Common.{ap, map}
use Rattle.std.proofs.lemmas.Result.{err_from_is_err_and}
use Rattle.groups.specs.View.{group_row_of}
use Rattle.groups.proofs.Going.{stage_start, stage_next}
use Rattle.tuples.specs.View.{world_of}
use Rattle.report.specs.QueryStages.{having_fate}
use Rattle.groups.proofs.Walks.{next}
use Rattle.report.proofs.grouped.having_stage.Goals as goal

pub loop-group-init : goal.loop-group-init
loop-group-init g c = stage_start (λ h. group_row_of h.now) c.new-stage.result (map (having_fate c.args.world.now.role.now (world_of c.args.world.now).query) (map (λ h. group_row_of h) c.args.groups.now)) c.new-stage.ensures.given c.new-stage.ensures.least

pub loop-group-preserved : goal.loop-group-preserved
loop-group-preserved g c =
    let first = next c.args.groups.now c.loop-group.group-index c.group-item.result c.loop-group-test.true c.group-item.is in
    stage_next (λ h. group_row_of h.now) _ _ _ _ _ _ _ (ap (λ l. map (having_fate c.args.world.now.role.now (world_of c.args.world.now).query) (map (λ h. group_row_of h) l)) first)
    c.having_fate.ensures c.in_ok-add.ensures.added c.loop-group.invariant

pub returns-in_err-add : goal.returns-in_err-add
returns-in_err-add g c =
    let p = err_from_is_err_and c.from_residual.result c.from_residual.ensures.1 in
    rw (p.1, p.2) tt
