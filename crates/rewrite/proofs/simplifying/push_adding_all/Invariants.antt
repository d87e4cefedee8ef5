use Rattle.std.proofs.Common.{◌≡◌, ◌++◌, map, drop}
use Rattle.algebra.specs.PlanningList.{with_all, with_consequences}
use Rattle.algebra.specs.View.{step_of}
use Rattle.rewrite.specs.Simplifying.{adding_all}
use Rattle.rewrite.proofs.simplifying.push_adding_all.Given as goal

abbrev pub invariant-loop-i : goal.invariant-loop-i
invariant-loop-i g l = record {
  added : map step_of l.trail ++ adding_all l.known l.i (drop l.i l.conditions) l.conditions ≡ map step_of l.fn.trail ++ adding_all l.conditions 0 l.conditions l.conditions;
  known : with_all l.known (drop l.i l.conditions) l.conditions ≡ with_consequences l.conditions;
}
