use Rattle.std.proofs.Common.{◌≡◌, ◌++◌, map, drop, length}
use Rattle.algebra.specs.View.{step_of}
use Rattle.rewrite.specs.Simplifying.{simplifying_each}
use Rattle.rewrite.proofs.simplifying.push_simplifying.Given as goal

abbrev pub invariant-loop : goal.invariant-loop
invariant-loop g l = record {
  deep : l.depth ≡ length (drop l.index l.conditions);
  added : map step_of l.trail ++ simplifying_each (drop l.index l.conditions) ≡ map step_of l.fn.trail ++ simplifying_each l.conditions;
}
