use Rattle.std.proofs.Common.{◌≡◌, map, option_map, take}
use Rattle.expr.specs.View.{aggregate_call_of}
use Rattle.tuples.specs.View.{world_of}
use Rattle.row_marks.specs.Marked.{computed_entry}
use Rattle.row_marks.specs.Marks.{AreMarkedArguments, argument_seen}
use Rattle.row_marks.proofs.marks.marked_arguments.Given as goal

abbrev pub invariant-loop-call : goal.invariant-loop-call
invariant-loop-call g l = record {
  seen : map (λ a. argument_seen a) l.marked.items ≡ map (λ call. option_map (λ e. (e, computed_entry (world_of l.world) e)) (aggregate_call_of call).argument) (take l.call-index l.calls);
  marked : AreMarkedArguments (world_of l.world) l.marked.items;
}
