use Rattle.std.proofs.Common.{◌≡◌, map}
use Rattle.std.specs.List.{AllWithin}
use Rattle.tuples.specs.View.{world_of}
use Rattle.row_marks.specs.Marks.{AreMarkedArguments, IsMadeIf, argument_seen}
use Rattle.row_marks.proofs.marks.make_seen_arguments.Given as goal

abbrev pub invariant-loop-index : goal.invariant-loop-index
invariant-loop-index g l = record {
  seen : map (λ m. argument_seen m) l.arguments.items ≡ map (λ m. argument_seen m) l.fn.arguments.items;
  marked : AreMarkedArguments (world_of l.world) l.fn.arguments.items → AreMarkedArguments (world_of l.world) l.arguments.items;
  made : AllWithin (λ a. IsMadeIf (world_of l.world) a.marked) l.arguments.items 0 l.index;
}
