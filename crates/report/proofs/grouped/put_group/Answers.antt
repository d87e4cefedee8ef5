use Rattle.std.proofs.Common.{[], ◌∷◌, OnOk, map, subst, sym}
use Rattle.std.proofs.lemmas.List.{map-append}
use Rattle.memory.specs.Gives.{Gives}
use Rattle.groups.specs.GroupRow.{group_cells}
use Rattle.groups.specs.View.{group_row_of}
use Rattle.tuples.specs.View.{world_of}
use Rattle.report.specs.Answering.{HoldsRows}
use Rattle.report.specs.Pushed.{values_after}
use Rattle.report.specs.QueryStages.{cells_of_group, group_items_fate, values_of}
use Rattle.report.proofs.Taking.{has_pushed}
use Rattle.report.proofs.grouped.put_group.Goals as goal

pub returns : goal.returns
returns g c = λ these h.
    let q = (world_of c.args.world.now).query in
    let role = c.args.world.now.role.now in
    let due = values_of (cells_of_group q (group_row_of c.args.group.now)) role q.items in
    subst (λ l. OnOk c.end_row.result (HoldsRows q.order_by q.limit c.end_row.new.self l)) (sym (map-append (group_items_fate role q) these (group_row_of c.args.group.now ∷ [])))
    (c.end_row.ensures due (map (group_items_fate role q) these) (has_pushed _ _ c.args.rows.now _ _ _ due h c.push_values-outcome.ensures.rows
    (subst (λ cs. Gives (λ _. c.push_values-outcome.new.rows.unfinished) c.push_values-outcome.result (values_after c.args.rows.now.rows.unfinished (values_of (group_cells q.group_by cs (group_row_of c.args.group.now)) role q.items))) c.requires.calls
    (rw (c.as_slice.ensures, c.as_slice-items.ensures) at c.push_values-outcome.ensures.values))))
