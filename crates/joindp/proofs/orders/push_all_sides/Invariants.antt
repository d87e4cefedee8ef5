use Rattle.std.proofs.Common.{◌≡◌, ℕ, ◌<◌, Some, slice_get}
use Rattle.expr.specs.Bound.{BoundExpr}
use Rattle.predicates.specs.Equalities.{column_sides}
use Rattle.joindp.specs.Search.{AreKept, HasSides}
use Rattle.joindp.proofs.orders.push_all_sides.Given as goal

abbrev pub invariant-loop-condition : goal.invariant-loop-condition
invariant-loop-condition g l = record {
  kept : AreKept l.fn.orders l.orders;
  there : (k : ℕ) (e : BoundExpr) → k < l.condition-index → slice_get l.conditions k ≡ Some e → HasSides l.orders (column_sides e);
}
