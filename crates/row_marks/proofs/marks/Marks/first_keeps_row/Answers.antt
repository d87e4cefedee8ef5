use Rattle.std.proofs.Common.{ap, length, not, ◌<◌, subst, ◌≡◌, ◌∙◌, IfOk, arith}
use Rattle.tuples.specs.View.{world_of}
use Rattle.row_marks.specs.Marked.{drops_first}
use Rattle.row_marks.specs.Marks.{seen_of}
use Rattle.row_marks.proofs.Marking.{first_drops, first_entry, marked_at, some_there, marked_set, same_set, with_conditions}
use Rattle.row_marks.proofs.marks.Marks.first_keeps_row.Goals as goal

pub returns-clause-kept : goal.returns-clause-kept
returns-clause-kept g c = λ are.
    let w = world_of c.args.world.now in
    let ms = c.args.self.now.conditions.items in
    let first = c.index_mut.result.now in
    let some = some_there c.args.self.now.conditions.len c.is_empty.result c.is_empty.ensures c.if-is_empty.false in
    let lt : 0 < length ms = omega (arith, some, c.args.self.now.conditions.ok.0) in
    let drops = first_drops w ms first c.args.entry c.args.number lt c.index_mut.ensures.value ∙ ap (λ es. drops_first w es c.args.entry c.args.number) are.conditions in
    subst (λ d. IfOk c.keeps_row.result (λ b. b ≡ not d)) drops
    (c.keeps_row.ensures.kept (marked_at w ms 0 first lt c.index_mut.ensures.value are.marked_conditions) (first_entry w ms first lt c.index_mut.ensures.value are.entries))

pub returns-clause-marks : goal.returns-clause-marks
returns-clause-marks g c = λ are.
    let w = world_of c.args.world.now in
    let ms = c.args.self.now.conditions.items in
    let first = c.index_mut.result.now in
    with_conditions w c.args.self.now are _ (same_set (λ m. seen_of m) ms 0 first c.keeps_row.new.self c.index_mut.ensures.value c.keeps_row.ensures.seen)
    (marked_set w ms 0 first c.keeps_row.new.self c.index_mut.ensures.value c.keeps_row.ensures.marked are.marked_conditions)
