use Rattle.std.proofs.Common.{◌∙◌, sym}
use Rattle.csv_records.proofs.PlainFacts.{one_passed}
use Rattle.csv_records.proofs.plain.line_ends.Goals as goal

pub loop-i-preserved : goal.loop-i-preserved
loop-i-preserved c = λ more. one_passed c.args.bytes.now c.loop-i.i c.loop-i-test.true (sym c.ends_line.ensures ∙ c.if-not-ends_line.false) more (c.loop-i.invariant more)
