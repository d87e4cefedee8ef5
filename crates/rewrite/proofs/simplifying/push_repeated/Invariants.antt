use Rattle.std.proofs.Common.{◌≡◌, ◌++◌, map}
use Rattle.algebra.specs.View.{step_of}
use Rattle.rewrite.specs.Simplifying.{repeated}
use Rattle.rewrite.specs.Trails.{at_root, below_filters}
use Rattle.rewrite.proofs.simplifying.push_repeated.Given as goal

abbrev pub invariant-loop : goal.invariant-loop
invariant-loop g l = map step_of l.trail ≡ map step_of l.fn.trail ++ below_filters l.depth (repeated l.counter (at_root l.rule))
