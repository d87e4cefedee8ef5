use Rattle.std.proofs.Common.{◌≡◌, map, true, drop}
use Rattle.std.specs.List.{list_all}
use Rattle.expr.specs.Movable.{movable}
use Rattle.expr.specs.View.{bound_expr_of}
use Rattle.predicates.specs.Offsets.{without_offsets}
use Rattle.row_terms.specs.View.{term_of}
use Rattle.row_terms.specs.Written as spec
use Rattle.row_terms.proofs.query_term.filters.Given as goal

abbrev pub invariant-loop-condition : goal.invariant-loop-condition
invariant-loop-condition g l = record {
  movable : list_all movable (map (λ e. bound_expr_of e.now) (drop l.condition-index l.conditions)) ≡ true;
  is_filtered :
      spec.filters (map without_offsets (map (λ e. bound_expr_of e.now) (drop l.condition-index l.conditions))) (term_of l.term)
      ≡ spec.filters (map without_offsets (map (λ e. bound_expr_of e.now) l.conditions)) (term_of l.fn.term);
}
