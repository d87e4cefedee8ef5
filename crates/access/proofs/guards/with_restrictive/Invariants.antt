use Rattle.std.proofs.Common.{◌≡◌, ◌∷◌, ◌++◌, true, drop, filter, map}
use Rattle.expr.specs.Movable.{all_movable}
use Rattle.expr.specs.View.{bound_expr_of, bound_exprs}
use Rattle.row_objects.specs.View.{policy_of}
use Rattle.access.specs.Access.{restricts}
use Rattle.access.specs.Guards.{predicates}
use Rattle.access.proofs.guards.with_restrictive.Given as goal

abbrev pub invariant-loop-policy : goal.invariant-loop-policy
invariant-loop-policy g l = record {
  rest : map bound_expr_of l.all ++ predicates (filter (restricts l.catalog l.role) (map (λ p. policy_of p) (drop l.policy-index l.policies))) ≡ bound_expr_of l.fn.first.value ∷ predicates (filter (restricts l.catalog l.role) (map (λ p. policy_of p) l.policies));
  movable : all_movable (bound_exprs l.all) ≡ true;
}
