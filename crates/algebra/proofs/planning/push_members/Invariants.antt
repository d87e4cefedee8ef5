use Rattle.std.proofs.Common.{◌≡◌, ◌++◌, map, true}
use Rattle.std.specs.Vec.Iter.{into_iter_items}
use Rattle.expr.specs.Movable.{all_movable}
use Rattle.expr.specs.View.{bound_expr_of, bound_exprs}
use Rattle.algebra.proofs.planning.push_members.Given as goal

abbrev pub invariant-loop-member : goal.invariant-loop-member
invariant-loop-member g l = record {
  movable : all_movable (bound_exprs (into_iter_items l.member-iterator)) ≡ true;
  added : l.known ++ map (λ e. bound_expr_of e) (into_iter_items l.member-iterator) ≡ l.fn.known ++ map (λ e. bound_expr_of e) l.fn.members.items;
}
