use Rattle.std.proofs.Common.{◌≡◌, map}
use Rattle.tuples.specs.World.{World}
use Rattle.row_marks.specs.Marks.{AreMarkedArguments, argument_seen}
use Rattle.row_marks.proofs.marks.forgo_arguments.Given as goal

abbrev pub invariant-loop-index : goal.invariant-loop-index
invariant-loop-index g l = record {
  seen : map (λ a. argument_seen a) l.arguments.items ≡ map (λ a. argument_seen a) l.fn.arguments.items;
  marked : (w : World) → AreMarkedArguments w l.fn.arguments.items → AreMarkedArguments w l.arguments.items;
}
