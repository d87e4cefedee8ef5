use Rattle.std.proofs.Common.{◌≡◌, ◌++◌, map, true, drop}
use Rattle.std.specs.List.{list_all}
use Rattle.expr.specs.Movable.{movable}
use Rattle.expr.specs.View.{bound_expr_of}
use Rattle.predicates.specs.Offsets.{without_offsets}
use Rattle.algebra.proofs.planning.all_as_written.Given as goal

abbrev pub invariant-loop-condition : goal.invariant-loop-condition
invariant-loop-condition g l = record {
  movable : list_all movable (map (λ e. bound_expr_of e.now) (drop l.condition-index l.conditions)) ≡ true;
  written : l.all ++ map without_offsets (map (λ e. bound_expr_of e.now) (drop l.condition-index l.conditions)) ≡ map without_offsets (map (λ e. bound_expr_of e.now) l.conditions);
}
