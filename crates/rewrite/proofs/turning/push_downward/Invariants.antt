use Rattle.std.proofs.Common.{◌≡◌, ◌++◌, map}
use Rattle.algebra.specs.View.{step_of}
use Rattle.rewrite.specs.Trails.{at_root, below_path}
use Rattle.rewrite.specs.Turning.{downward}
use Rattle.rewrite.proofs.turning.push_downward.Given as goal

abbrev pub invariant-loop-i : goal.invariant-loop-i
invariant-loop-i g l = map step_of l.trail ≡ map step_of l.fn.trail ++ below_path l.path (downward l.i (at_root l.rule))
