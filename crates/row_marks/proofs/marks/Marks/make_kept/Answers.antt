use Rattle.tuples.specs.View.{world_of}
use Rattle.row_marks.proofs.Marking.{with_arguments, with_items}
use Rattle.row_marks.proofs.Marking.{on_both}
use Rattle.row_marks.proofs.marks.Marks.make_kept.Goals as goal

pub returns-then-world : goal.returns-then-world
returns-then-world g c = λ marks.
    on_both c.make_arguments.result (λ seen marked. with_arguments (world_of c.args.world.now) c.args.self.now marks c.make_arguments.new.arguments seen marked)
    c.make_arguments.ensures.seen (c.make_arguments.ensures.marked marks.marked_arguments)

pub returns-else-world : goal.returns-else-world
returns-else-world g c = λ marks.
    on_both c.make_all.result (λ seen marked. with_items (world_of c.args.world.now) c.args.self.now marks c.make_all.new.marked seen marked)
    c.make_all.ensures.seen (c.make_all.ensures.marked marks.marked_items)
