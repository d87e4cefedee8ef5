use Rattle.std.proofs.Common.{◌∙◌}
use Rattle.tuples.specs.View.{world_of}
use Rattle.row_marks.specs.Marks.{argument_seen}
use Rattle.row_marks.proofs.Marking.{arguments_set, same_set}
use Rattle.row_marks.proofs.marks.make_arguments.Goals as goal

pub loop-index-preserved : goal.loop-index-preserved
loop-index-preserved g c = record {
  seen = same_set (λ a. argument_seen a) c.loop-index.arguments.items c.loop-index.index c.index_mut.result.now c.make_argument.new.argument c.index_mut.ensures.value c.make_argument.ensures.seen ∙ c.loop-index.invariant.seen;
  marked = λ are. arguments_set (world_of c.args.world.now) c.loop-index.arguments.items c.loop-index.index c.index_mut.result.now c.make_argument.new.argument c.index_mut.ensures.value c.make_argument.ensures.marked (c.loop-index.invariant.marked are);
}
