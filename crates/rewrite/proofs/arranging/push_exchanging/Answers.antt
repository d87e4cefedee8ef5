use Rattle.std.proofs.Common.{ap, map}
use Rattle.algebra.specs.View.{step_of}
use Rattle.rewrite.specs.Placing.{exchanging}
use Rattle.rewrite.proofs.Added.{none_there}
use Rattle.rewrite.proofs.Below.{none_added}
use Rattle.rewrite.proofs.arranging.push_exchanging.Goals as goal

pub returns-in-empty : goal.returns-in-empty
returns-in-empty g c = none_added c.args.path.now (map step_of c.args.trail.now) (exchanging c.args.below.now) (ap exchanging (none_there c.args.below.now c.in-empty.len_below))
