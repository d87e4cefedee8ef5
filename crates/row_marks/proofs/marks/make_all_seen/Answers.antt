use Rattle.std.proofs.Common.{◌<◌, ◌∙◌, length, arith}
use Rattle.std.proofs.lemmas.List.Elements.{AllWithin-more_set, AllWithin-upto, All-from_all_within}
use Rattle.tuples.specs.View.{world_of}
use Rattle.row_marks.specs.Marks.{IsMade, seen_of}
use Rattle.row_marks.proofs.Marking.{marked_set, same_length, same_set}
use Rattle.row_marks.proofs.marks.make_all_seen.Goals as goal

pub loop-index-preserved : goal.loop-index-preserved
loop-index-preserved g c =
    let w = world_of c.args.world.now in
    let ms = c.loop-index.marked.items in
    let i = c.loop-index.index in
    let old = c.index_mut.result.now in
    let new = c.make_seen.new.self in
    let count = same_length (λ m. seen_of m) ms c.args.marked.now.items c.loop-index.invariant.seen in
    let lt : i < length ms = omega (arith, c.loop-index-test.true, c.len-index-end.ensures, c.args.marked.now.ok.0, count) in
    record {
      seen = same_set (λ m. seen_of m) ms i old new c.index_mut.ensures.value c.make_seen.ensures.seen ∙ c.loop-index.invariant.seen;
      marked = λ are. marked_set w ms i old new c.index_mut.ensures.value c.make_seen.ensures.marked (c.loop-index.invariant.marked are);
      made = AllWithin-more_set ms i new lt (IsMade w) c.loop-index.invariant.made c.in_ok-make_seen.ensures.made;
    }

pub returns : goal.returns
returns g c =
    let w = world_of c.args.world.now in
    let ms = c.loop-index.marked.items in
    let count = same_length (λ m. seen_of m) ms c.args.marked.now.items c.loop-index.invariant.seen in
    record {
      seen = c.loop-index.invariant.seen;
      marked = c.loop-index.invariant.marked;
      made = All-from_all_within (IsMade w) ms (AllWithin-upto (IsMade w) ms 0 c.loop-index.index (length ms) (omega (arith, c.loop-index-test.false, c.len-index-end.ensures, c.args.marked.now.ok.0, count)) c.loop-index.invariant.made);
    }
