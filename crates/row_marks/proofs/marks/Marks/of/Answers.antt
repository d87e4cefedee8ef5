use Rattle.tuples.specs.View.{world_of}
use Rattle.row_marks.proofs.Marking.{with_arguments, with_conditions, with_items}
use Rattle.row_marks.proofs.marks.Marks.of.Goals as goal

pub returns-clause-marks : goal.returns-clause-marks
returns-clause-marks g c =
    let w = world_of c.args.world.now in
    let m = c.in_ok-marks.marks in
    let are = c.in_ok-marks.ensures in
    let conditions = c.make_all_seen.new.marked in
    let items = c.make_all_seen-2.new.marked in
    let with_first = with_conditions w m are conditions c.in_ok-make_all_seen.ensures.seen (c.in_ok-make_all_seen.ensures.marked are.marked_conditions) in
    let with_both = with_items w (record m { conditions = conditions }) with_first items c.in_ok-make_all_seen-2.ensures.seen (c.in_ok-make_all_seen-2.ensures.marked are.marked_items) in
    with_arguments w (record m { conditions = conditions; items = items }) with_both c.make_seen_arguments.new.arguments
    c.in_ok-make_seen_arguments.ensures.seen (c.in_ok-make_seen_arguments.ensures.marked are.marked_arguments)
