use Rattle.std.proofs.Common.{◌∙◌}
use Rattle.row_marks.specs.Marks.{seen_of}
use Rattle.row_marks.proofs.Marking.{marked_set, same_set, still_marked}
use Rattle.row_marks.proofs.marks.forgo_all.Goals as goal

pub loop-index-preserved : goal.loop-index-preserved
loop-index-preserved g c = record {
  seen = same_set (λ m. seen_of m) c.loop-index.marked.items c.loop-index.index c.index_mut.result.now c.forgo.new.self c.index_mut.ensures.value c.forgo.ensures.seen ∙ c.loop-index.invariant.seen;
  marked = λ w are. marked_set w c.loop-index.marked.items c.loop-index.index c.index_mut.result.now c.forgo.new.self c.index_mut.ensures.value (still_marked w c.index_mut.result.now c.forgo.new.self c.forgo.ensures.seen c.forgo.ensures.marks c.forgo.ensures.on_null) (c.loop-index.invariant.marked w are);
}
