use Rattle.row_marks.proofs.Marking.{with_arguments, with_conditions, with_items}
use Rattle.row_marks.proofs.marks.Marks.forgo.Goals as goal

pub returns : goal.returns
returns g c = λ w are.
    let conditions = with_conditions w c.args.self.now are c.forgo_all.new.marked c.forgo_all.ensures.seen (c.forgo_all.ensures.marked w are.marked_conditions) in
    let items = with_items w _ conditions c.forgo_all-2.new.marked c.forgo_all-2.ensures.seen (c.forgo_all-2.ensures.marked w are.marked_items) in
    with_arguments w _ items c.forgo_arguments.new.arguments c.forgo_arguments.ensures.seen (c.forgo_arguments.ensures.marked w are.marked_arguments)
