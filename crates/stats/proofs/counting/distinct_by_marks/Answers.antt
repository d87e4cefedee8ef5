use Rattle.std.proofs.Common.{◌≡◌, ◌+◌, ◌<◌, ◌+ℤ◌, ◌≤ℤ◌, ◌<ℤ◌, false, pos, length, get_or, FitsSigned, w64, to_z, of_z, ap, sym, ◌∙◌, arith, rules}
use Rattle.std.proofs.lemmas.List.{get_or_default, length-set}
use Rattle.std.proofs.lemmas.List.Elements.{All-get_or}
use Rattle.stats.proofs.Marks.{placed, step_again, step_new}
use Rattle.stats.proofs.counting.distinct_by_marks.Goals as goal
use Rattle.stats.proofs.counting.distinct_by_marks.Goals.{then-not-index, else-not-index}

pub loop-number-preserved : goal.loop-number-preserved
loop-number-preserved g c =
    let ns = c.args.numbers.now in
    let i = c.loop-number.number-index in
    let n = get_or ns i (pos 0) in
    let least = to_z w64 (of_z w64 c.args.least) in
    let place = c.abs_diff-place.result in
    let marks = c.loop-number.marks.items in
    let so_far = c.loop-number.invariant in
    let lt = c.loop-number-test.true in
    let fit : FitsSigned w64 n = search rules in
    let here = placed n c.args.least place c.args.places fit c.ranges.least (All-get_or (λ n. (c.args.least ≤ℤ n) × (n <ℤ (c.args.least +ℤ pos c.args.places))) ns i (pos 0) lt c.requires) c.abs_diff-place.ensures in
    let within : place < length marks = omega (arith, here.1, so_far.long) in
    let read : get_or marks place false ≡ c.index.result.now = get_or_default marks place false c.index.result.now within ∙ sym c.index.ensures in
    elim c.if-not-index.branch [
      | then-not-index w ↦
          let step = step_new ns least c.args.places i n marks place lt (get_or_default ns i (pos 0) n lt) here.0 here.1 so_far.marked within (read ∙ w.if-not-index.true) in record {
            few = omega (arith, w.count-is, so_far.few);
            long = rw w.marks-is (length-set marks place _ ∙ so_far.long);
            counts = w.count-is ∙ ap (λ k. k + 1) so_far.counts ∙ step.0;
            marked = rw w.marks-is step.1;
          }
      | else-not-index w ↦
          let step = step_again ns least c.args.places i n marks place lt (get_or_default ns i (pos 0) n lt) here.0 here.1 so_far.marked (read ∙ w.if-not-index.false) in record {
            few = omega (arith, w.count-is, so_far.few);
            long = rw w.marks-is so_far.long;
            counts = w.count-is ∙ so_far.counts ∙ step.0;
            marked = rw w.marks-is step.1;
          }
    ]
