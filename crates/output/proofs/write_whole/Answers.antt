use Rattle.std.proofs.Common.{arith, ◌∙◌, ◌+◌, sym, length-drop}
use Rattle.std.proofs.Math.Seq.{take-add}
use Rattle.std.proofs.lemmas.List.{drop-drop, take_rest}
use Rattle.output.proofs.Parts.{appends_more}
use Rattle.output.proofs.write_whole.Goals as goal

pub loop-rest-preserved : goal.loop-rest-preserved
loop-rest-preserved g c =
    let (n, within, rest, taken, failures) = c.loop-rest.invariant in
    let put = rw rest at c.in_ok-count.ensures in
    let few = put.0 in
    let size = length-drop n c.args.text.now in (
      n + c.in_ok-count.count,
      omega (arith, within, few, size),
      rw (take_rest, rest) (drop-drop c.in_ok-count.count n c.args.text.now),
      appends_more _ _ _ _ _ _ taken put.2 (sym (take-add n c.in_ok-count.count c.args.text.now)),
      put.3 ∙ failures,
    )
