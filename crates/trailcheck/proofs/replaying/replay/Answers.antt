use Rattle.std.proofs.Common.{map}
use Rattle.memory.proofs.Cases.{exits}
use Rattle.tuples.specs.View.{guard_of}
use Rattle.row_terms.specs.View.{term_of}
use Rattle.algebra.specs.View.{step_of}
use Rattle.trailcheck.proofs.Trail.{goes_on, stops}
use Rattle.trailcheck.proofs.replaying.replay.Goals as goal

pub returns-in_err-term : goal.returns-in_err-term
returns-in_err-term g c =
    exits (λ t. term_of t) c.from_residual-in_err-term.result c.in_err-term.field-0.0 _ c.from_residual-in_err-term.ensures.1
    (stops step_of (map guard_of c.args.frame.now) c.args.trail.now c.loop-i.i (term_of c.loop-i.term) _ c.loop-i.invariant c.index-trail-i.result c.loop-i-test.true c.index-trail-i.is c.in_err-term.field-0.0 c.in_err-term.ensures)

pub loop-i-preserved : goal.loop-i-preserved
loop-i-preserved g c =
    goes_on step_of (map guard_of c.args.frame.now) c.args.trail.now c.loop-i.i (term_of c.loop-i.term) _ c.loop-i.invariant c.index-trail-i.result c.loop-i-test.true c.index-trail-i.is (term_of c.in_ok-term.term) c.in_ok-term.ensures
