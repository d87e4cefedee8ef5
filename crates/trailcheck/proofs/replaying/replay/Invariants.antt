use Rattle.std.proofs.Common.{◌≡◌, ◌+◌, map, drop}
use Rattle.tuples.specs.View.{guard_of}
use Rattle.row_terms.specs.View.{term_of}
use Rattle.algebra.specs.View.{step_of}
use Rattle.trailcheck.specs.Replays as spec
use Rattle.trailcheck.proofs.replaying.replay.Given as goal

-- the steps that are left lead from here to where the whole trail leads
abbrev pub invariant-loop-i : goal.invariant-loop-i
invariant-loop-i g l = spec.replay (map guard_of l.frame) (l.i + 1) (map step_of (drop l.i l.trail)) (term_of l.term) ≡ spec.replay (map guard_of l.frame) 1 (map step_of l.trail) (term_of l.fn.written)
