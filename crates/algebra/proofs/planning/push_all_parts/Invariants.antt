use Rattle.std.proofs.Common.{◌≡◌, ◌++◌, flat_map}
use Rattle.std.specs.Vec.Iter.{into_iter_items}
use Rattle.algebra.specs.PlanningList.{parts_of}
use Rattle.algebra.proofs.planning.push_all_parts.Given as goal

abbrev pub invariant-loop-condition : goal.invariant-loop-condition
invariant-loop-condition g l = l.known ++ flat_map parts_of (into_iter_items l.condition-iterator) ≡ l.fn.known ++ flat_map parts_of l.fn.conditions
