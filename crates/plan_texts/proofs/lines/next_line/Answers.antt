use Rattle.std.proofs.Common.{sym, arith}
use Rattle.plan_texts.proofs.Cuts.{line_is, byte_passed, no_line}
use Rattle.plan_texts.proofs.lines.next_line.Goals as goal

pub returns-then-ends-clause-line : goal.returns-then-ends-clause-line
returns-then-ends-clause-line c = line_is c.args.text.now c.loop-index.index c.loop-index.quoted c.loop-index.invariant c.loop-index-test.true (sym c.if-ends.ensures)

pub loop-index-preserved : goal.loop-index-preserved
loop-index-preserved c = byte_passed c.args.text.now c.loop-index.index c.loop-index.quoted _ c.loop-index.invariant c.loop-index-test.true (sym c.if-ends.ensures) c.quotes-quoted.ensures

pub returns-clause-none : goal.returns-clause-none
returns-clause-none c = no_line c.args.text.now c.loop-index.index c.loop-index.quoted c.loop-index.invariant (omega (arith, c.loop-index-test.false))
