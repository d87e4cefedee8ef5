use Rattle.std.proofs.Common.{[], ◌∷◌, ap, arith, map, subst, sym, take, ◌∙◌}
use Rattle.std.proofs.lemmas.List.{map-append}
use Rattle.groups.specs.View.{group_row_of}
use Rattle.tuples.specs.View.{world_of}
use Rattle.row_marks.proofs.Marking.{all_taken}
use Rattle.report.specs.Answering.{HoldsRows}
use Rattle.report.specs.QueryStages.{group_items_fate}
use Rattle.report.proofs.Taking.{next_taken}
use Rattle.report.proofs.grouped.rows_in_order.Goals as goal

pub loop-group-init : goal.loop-group-init
loop-group-init g c = c.new-rows.ensures _ _

pub loop-group-preserved : goal.loop-group-preserved
loop-group-preserved g c =
    let q = (world_of c.args.world.now).query in
    let role = c.args.world.now.role.now in
    let next = next_taken c.args.groups.now c.loop-group.group-index c.group-item.result c.loop-group-test.true c.group-item.is in
    let first = map (λ h. group_row_of h.now) (take c.loop-group.group-index c.args.groups.now) in
    subst (λ l. HoldsRows q.order_by q.limit c.put_group.new.rows (map (group_items_fate role q) l))
    (sym (ap (λ l. map (λ h. group_row_of h.now) l) next ∙ map-append (λ h. group_row_of h.now) (take c.loop-group.group-index c.args.groups.now) (c.group-item.result ∷ [])))
    (c.in_ok-put_group.ensures first c.loop-group.invariant)

pub returns : goal.returns
returns g c =
    let q = (world_of c.args.world.now).query in
    let role = c.args.world.now.role.now in
    let all = all_taken c.args.groups.now c.loop-group.group-index (omega arith) in
    c.end.ensures (map (group_items_fate role q) (map (λ h. group_row_of h.now) c.args.groups.now))
    (subst (λ l. HoldsRows q.order_by q.limit c.loop-group.rows (map (group_items_fate role q) (map (λ h. group_row_of h.now) l))) all c.loop-group.invariant)
