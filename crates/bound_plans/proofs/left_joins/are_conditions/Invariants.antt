use Rattle.std.proofs.Common.{◌≡◌, length, map}
use Rattle.std.specs.Iterator.Adapters.{zip_first, zip_second}
use Rattle.std.specs.Slice.Iter.{iter_rest}
use Rattle.scope.specs.View.{entries_of}
use Rattle.plan_texts.specs.View.{on_of}
use Rattle.bound_plans.specs.LeftJoins.{are_conditions}
use Rattle.bound_plans.proofs.left_joins.are_conditions.Given as goal

abbrev pub invariant-loop-on : goal.invariant-loop-on
invariant-loop-on g l = record {
  rest : are_conditions (entries_of l.entries) (map on_of (iter_rest (zip_first l.on-iterator))) (iter_rest (zip_second l.on-iterator)) ≡ are_conditions (entries_of l.entries) (map on_of l.ons) l.conditions;
  as_long : length (iter_rest (zip_first l.on-iterator)) ≡ length (iter_rest (zip_second l.on-iterator));
}
