use Rattle.std.proofs.Common.{arith}
use Rattle.stats.proofs.sizes.reduced.Goals as goal

pub returns-clause-value : goal.returns-clause-value
returns-clause-value c = omega arith

pub returns-clause-least : goal.returns-clause-least
returns-clause-least c = omega arith
