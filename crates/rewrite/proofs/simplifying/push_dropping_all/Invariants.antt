use Rattle.std.proofs.Common.{◌≡◌, ◌++◌, [], map, length}
use Rattle.std.specs.Vec.Iter.{into_iter_items}
use Rattle.algebra.specs.PlanningList.{with_others, without_repeats}
use Rattle.algebra.specs.View.{step_of}
use Rattle.rewrite.specs.Simplifying.{dropping}
use Rattle.rewrite.proofs.simplifying.push_dropping_all.Given as goal

abbrev pub invariant-loop-condition : goal.invariant-loop-condition
invariant-loop-condition g l = record {
  deep : l.depth ≡ length (into_iter_items l.condition-iterator);
  added : map step_of l.trail ++ dropping l.known (into_iter_items l.condition-iterator) ≡ map step_of l.fn.trail ++ dropping [] l.fn.conditions;
  known : with_others l.known (into_iter_items l.condition-iterator) ≡ without_repeats l.fn.conditions;
}
