use Rattle.std.proofs.Common.{◌≡◌, OnOk, [], ◌∷◌, map, subst, sym}
use Rattle.std.proofs.lemmas.List.{map-append}
use Rattle.memory.specs.Gives.{Gives}
use Rattle.groups.specs.Members.{all_of}
use Rattle.tuples.specs.Combinations.{joined_cells}
use Rattle.tuples.specs.View.{world_of}
use Rattle.tuples.specs.World.{combination_at}
use Rattle.row_marks.specs.Marks.{outcome_in}
use Rattle.report.specs.Answering.{HoldsRows}
use Rattle.report.specs.Pushed.{values_after}
use Rattle.report.specs.QueryStages.{items_fate, values_of}
use Rattle.report.proofs.ItemsByMarks.{items_are}
use Rattle.report.proofs.Taking.{has_pushed}
use Rattle.report.proofs.ungrouped.put_items.Goals as goal

pub returns : goal.returns
returns g c = λ these are exprs h.
    let w = world_of c.args.world.now in
    let row = combination_at w.tables c.args.combination.now in
    let due = values_of (joined_cells row) w.role w.query.items in
    let is : all_of (map (λ m. outcome_in (joined_cells row) w.role c.args.combination.now m) c.args.items.now) ≡ due =
    items_are w c.args.combination.now c.args.items.now are w.query.items exprs in
    subst (λ l. OnOk c.end_row.result (HoldsRows w.query.order_by w.query.limit c.end_row.new.self l)) (sym (map-append (items_fate w.role w.query) these (row ∷ [])))
    (c.end_row.ensures due (map (items_fate w.role w.query) these) (has_pushed _ _ c.args.rows.now _ _ _ due h c.push_items-outcome.ensures.rows
    (subst (λ d. Gives (λ _. c.push_items-outcome.new.rows.unfinished) c.push_items-outcome.result (values_after c.args.rows.now.rows.unfinished d)) is (rw c.new-row.ensures at c.push_items-outcome.ensures.values))))
