use Rattle.std.proofs.Common.{map, take}
use Rattle.groups.specs.View.{group_row_of}
use Rattle.tuples.specs.View.{world_of}
use Rattle.report.specs.Answering.{HoldsRows}
use Rattle.report.specs.QueryStages.{group_items_fate}
use Rattle.report.proofs.grouped.rows_in_order.Given as goal

abbrev pub invariant-loop-group : goal.invariant-loop-group
invariant-loop-group g l =
    HoldsRows (world_of l.world).query.order_by (world_of l.world).query.limit l.rows
    (map (group_items_fate l.world.role.now (world_of l.world).query) (map (λ h. group_row_of h.now) (take l.group-index l.groups)))
