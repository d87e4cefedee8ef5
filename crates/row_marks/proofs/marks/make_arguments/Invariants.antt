use Rattle.std.proofs.Common.{◌≡◌, map}
use Rattle.tuples.specs.View.{world_of}
use Rattle.row_marks.specs.Marks.{AreMarkedArguments, argument_seen}
use Rattle.row_marks.proofs.marks.make_arguments.Given as goal

abbrev pub invariant-loop-index : goal.invariant-loop-index
invariant-loop-index g l = record {
  seen : map (λ a. argument_seen a) l.arguments.items ≡ map (λ a. argument_seen a) l.fn.arguments.items;
  marked : AreMarkedArguments (world_of l.world) l.fn.arguments.items → AreMarkedArguments (world_of l.world) l.arguments.items;
}
