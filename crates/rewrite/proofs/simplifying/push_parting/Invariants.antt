use Rattle.std.proofs.Common.{◌≡◌, ◌++◌, map, drop, length}
use Rattle.algebra.specs.View.{step_of}
use Rattle.rewrite.specs.Simplifying.{parting_each}
use Rattle.rewrite.proofs.simplifying.push_parting.Given as goal

abbrev pub invariant-loop-condition : goal.invariant-loop-condition
invariant-loop-condition g l = record {
  deep : l.depth ≡ length (drop l.condition-index l.conditions);
  added : map step_of l.trail ++ parting_each (drop l.condition-index l.conditions) ≡ map step_of l.fn.trail ++ parting_each l.conditions;
}
