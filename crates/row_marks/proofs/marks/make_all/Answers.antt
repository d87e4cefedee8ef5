use Rattle.std.proofs.Common.{◌∙◌}
use Rattle.tuples.specs.View.{world_of}
use Rattle.row_marks.specs.Marks.{seen_of}
use Rattle.row_marks.proofs.Marking.{marked_set, same_set}
use Rattle.row_marks.proofs.marks.make_all.Goals as goal

pub loop-index-preserved : goal.loop-index-preserved
loop-index-preserved g c = record {
  seen = same_set (λ m. seen_of m) c.loop-index.marked.items c.loop-index.index c.index_mut.result.now c.make.new.self c.index_mut.ensures.value c.make.ensures.seen ∙ c.loop-index.invariant.seen;
  marked = λ are. marked_set (world_of c.args.world.now) c.loop-index.marked.items c.loop-index.index c.index_mut.result.now c.make.new.self c.index_mut.ensures.value c.make.ensures.marked (c.loop-index.invariant.marked are);
}
