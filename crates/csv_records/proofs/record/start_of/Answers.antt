use Rattle.std.proofs.Common.{arith}
use Rattle.csv_records.proofs.FieldFacts.{start_of-first, start_of-later}
use Rattle.csv_records.proofs.record.start_of.Goals as goal

pub overflow_add-result : goal.overflow_add-result
overflow_add-result c = omega (arith, start_of-later 0 c.args.ends.now c.args.i c.if-i-eq0.false, c.requires.low)

pub returns-then-i-eq0 : goal.returns-then-i-eq0
returns-then-i-eq0 c = start_of-first 0 c.args.ends.now c.args.i c.if-i-eq0.true

pub returns-else-i-eq0 : goal.returns-else-i-eq0
returns-else-i-eq0 c = start_of-later 0 c.args.ends.now c.args.i c.if-i-eq0.false
