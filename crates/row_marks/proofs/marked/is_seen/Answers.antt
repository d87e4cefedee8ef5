use Rattle.std.proofs.Common.{ap, get_or, slice_get, sym, ◌∙◌}
use Rattle.memory.proofs.Cases.{some_is}
use Rattle.value.specs.Datum.{row_at}
use Rattle.tuples.specs.Guards.{shows}
use Rattle.tuples.specs.View.{guarded_table_of, world_of}
use Rattle.row_marks.proofs.MarkedRows.{none_seen, seen_by, table_at}
use Rattle.row_marks.proofs.marked.is_seen.Goals as goal

pub returns-then-not-has_row : goal.returns-then-not-has_row
returns-then-not-has_row g c =
    let w = world_of c.args.world.now in
    sym (none_seen w.role (slice_get w.tables c.args.entry) c.args.number (sym c.has_row.ensures.row ∙ c.if-not-has_row.true))

pub returns : goal.returns
returns g c =
    let w = world_of c.args.world.now in
    let there = c.has_row.ensures.entry c.if-not-has_row.false in
    let first = table_at (λ t. guarded_table_of t) c.args.world.now.tables.now c.args.entry c.index-world-entry.result there in
    let second = table_at (λ t. guarded_table_of t) c.args.world.now.tables.now c.args.entry c.index-world-entry-2.result there in
    let table = guarded_table_of (get_or c.args.world.now.tables.now c.args.entry c.index-world-entry-2.result) in
    let row = c.new-row.ensures ∙ ap (row_at _) c.from.ensures ∙ ap (λ t. row_at t.rows c.args.number) (some_is _ _ (sym first ∙ second)) in
    c.shows.ensures ∙ ap (shows w.role table.guard) row
    ∙ sym (seen_by w.role (slice_get w.tables c.args.entry) table c.args.number second (sym c.has_row.ensures.row ∙ c.if-not-has_row.false))
