use Rattle.std.proofs.Common.{◌≡◌, drop, map}
use Rattle.groups.specs.View.{group_row_of}
use Rattle.groups.proofs.Going.{going_on}
use Rattle.tuples.specs.View.{world_of}
use Rattle.report.specs.QueryStages.{having_fate, having_stage}
use Rattle.report.proofs.grouped.having_stage.Given as goal

abbrev pub invariant-loop-group : goal.invariant-loop-group
invariant-loop-group g l =
    going_on l.stage.least (map (λ h. group_row_of h.now) l.stage.given) (map (having_fate l.world.role.now (world_of l.world).query) (map (λ h. group_row_of h) (drop l.group-index l.groups)))
    ≡ having_stage l.world.role.now (world_of l.world).query (map (λ h. group_row_of h) l.groups)
