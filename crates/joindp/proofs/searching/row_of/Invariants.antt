use Rattle.std.proofs.Common.{◌≡◌, ◌<◌, ℕ, Option, Some, true, length, slice_index_or}
use Rattle.std.specs.List.{slice_get}
use Rattle.joindp.specs.declared.best.Best.{Best}
use Rattle.joins.specs.Orders.{Order}
use Rattle.joindp.specs.Search.{IsKept, is_order_of, plan_of}
use Rattle.code_costs.specs.View.{problem_of}
use Rattle.joindp.proofs.searching.row_of.Given as goal

abbrev pub invariant-loop-index : goal.invariant-loop-index
invariant-loop-index g l = record {
  long : length l.row.items ≡ l.index;
  each : (i : ℕ) (d : Option (Best _)) → i < l.index → (order : Order) → slice_get l.inputs.orders.now i ≡ Some order → is_order_of l.set order ≡ true → IsKept (problem_of l.inputs.problem.now) l.set order (plan_of (slice_index_or l.row.items i d));
}
