use Rattle.std.proofs.Common.{◌≡◌, ◌++◌, map, drop}
use Rattle.algebra.specs.PlanningList.{with_each}
use Rattle.algebra.specs.View.{step_of}
use Rattle.rewrite.specs.Simplifying.{adding_each}
use Rattle.rewrite.proofs.simplifying.push_adding_each.Given as goal

abbrev pub invariant-loop-j : goal.invariant-loop-j
invariant-loop-j g l = record {
  added : map step_of l.trail ++ adding_each l.known l.i l.p l.j (drop l.j l.others) ≡ map step_of l.fn.trail ++ adding_each l.fn.known l.i l.p 0 l.others;
  known : with_each l.known l.p (drop l.j l.others) ≡ with_each l.fn.known l.p l.others;
}
