use Rattle.std.proofs.Common.{◌∙◌}
use Rattle.row_marks.specs.Marks.{argument_seen}
use Rattle.row_marks.proofs.Marking.{arguments_set, same_set}
use Rattle.row_marks.proofs.marks.forgo_arguments.Goals as goal

pub loop-index-preserved : goal.loop-index-preserved
loop-index-preserved g c = record {
  seen = same_set (λ a. argument_seen a) c.loop-index.arguments.items c.loop-index.index c.index_mut.result.now c.forgo_argument.new.argument c.index_mut.ensures.value c.forgo_argument.ensures.seen ∙ c.loop-index.invariant.seen;
  marked = λ w are. arguments_set w c.loop-index.arguments.items c.loop-index.index c.index_mut.result.now c.forgo_argument.new.argument c.index_mut.ensures.value (c.forgo_argument.ensures.marked w) (c.loop-index.invariant.marked w are);
}
