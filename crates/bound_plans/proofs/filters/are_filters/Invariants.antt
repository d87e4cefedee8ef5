use Rattle.std.proofs.Common.{◌≡◌, length, map}
use Rattle.std.specs.Iterator.Adapters.{zip_first, zip_second}
use Rattle.std.specs.Slice.Iter.{iter_rest}
use Rattle.row_ast.specs.View.{expr_of}
use Rattle.scope.specs.View.{entries_of}
use Rattle.bound_plans.specs.Filters.{are_filters}
use Rattle.bound_plans.proofs.filters.are_filters.Given as goal

abbrev pub invariant-loop-filter : goal.invariant-loop-filter
invariant-loop-filter g l = record {
  rest : are_filters (entries_of l.entries) (map expr_of (iter_rest (zip_first l.filter-iterator))) (iter_rest (zip_second l.filter-iterator)) ≡ are_filters (entries_of l.entries) (map expr_of l.filters) l.conditions;
  as_long : length (iter_rest (zip_first l.filter-iterator)) ≡ length (iter_rest (zip_second l.filter-iterator));
}
