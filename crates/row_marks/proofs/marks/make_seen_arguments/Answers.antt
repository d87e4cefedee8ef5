use Rattle.std.proofs.Common.{◌<◌, ◌∙◌, length, arith}
use Rattle.std.proofs.lemmas.List.Elements.{AllWithin-more_set, AllWithin-upto, All-from_all_within}
use Rattle.tuples.specs.View.{world_of}
use Rattle.row_marks.specs.Marks.{IsMadeIf, argument_seen}
use Rattle.row_marks.proofs.Marking.{arguments_set, same_length, same_set}
use Rattle.row_marks.proofs.marks.make_seen_arguments.Goals as goal

pub loop-index-preserved : goal.loop-index-preserved
loop-index-preserved g c =
    let w = world_of c.args.world.now in
    let ms = c.loop-index.arguments.items in
    let i = c.loop-index.index in
    let old = c.index_mut.result.now in
    let new = c.make_seen_argument.new.argument in
    let count = same_length (λ m. argument_seen m) ms c.args.arguments.now.items c.loop-index.invariant.seen in
    let lt : i < length ms = omega (arith, c.loop-index-test.true, c.len-index-end.ensures, c.args.arguments.now.ok.0, count) in
    record {
      seen = same_set (λ m. argument_seen m) ms i old new c.index_mut.ensures.value c.make_seen_argument.ensures.seen ∙ c.loop-index.invariant.seen;
      marked = λ are. arguments_set w ms i old new c.index_mut.ensures.value c.make_seen_argument.ensures.marked (c.loop-index.invariant.marked are);
      made = AllWithin-more_set ms i new lt (λ a. IsMadeIf w a.marked) c.loop-index.invariant.made c.in_ok-make_seen_argument.ensures.made;
    }

pub returns : goal.returns
returns g c =
    let w = world_of c.args.world.now in
    let ms = c.loop-index.arguments.items in
    let count = same_length (λ m. argument_seen m) ms c.args.arguments.now.items c.loop-index.invariant.seen in
    record {
      seen = c.loop-index.invariant.seen;
      marked = c.loop-index.invariant.marked;
      made = All-from_all_within (λ a. IsMadeIf w a.marked) ms (AllWithin-upto (λ a. IsMadeIf w a.marked) ms 0 c.loop-index.index (length ms) (omega (arith, c.loop-index-test.false, c.len-index-end.ensures, c.args.arguments.now.ok.0, count)) c.loop-index.invariant.made);
    }
