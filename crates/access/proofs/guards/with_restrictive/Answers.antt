use Rattle.std.proofs.Common.{map, arith}
use Rattle.expr.specs.View.{bound_expr_of}
use Rattle.row_objects.specs.View.{policy_of}
use Rattle.access.specs.Access.{restricts}
use Rattle.access.proofs.Chosen.{chosen_next, chosen_not, chosen_over, movable_next}
use Rattle.access.proofs.guards.with_restrictive.Goals.{then-restricts+in_ok-push_predicate, else-restricts}
use Rattle.access.proofs.guards.with_restrictive.Goals as goal

pub loop-policy-preserved : goal.loop-policy-preserved
loop-policy-preserved g c = record {
  rest = elim c.if-restricts.branch [
    | then-restricts+in_ok-push_predicate w ↦ rw w.all-is
        (chosen_next (restricts c.args.catalog.now c.args.role.now) (λ p. policy_of p) c.args.policies.now c.loop-policy.policy-index (map bound_expr_of c.loop-policy.all) _ c.loop-policy.invariant.rest
        c.policy-item.result c.loop-policy-test.true c.policy-item.is w.if-restricts.ensures _ w.in_ok-push_predicate.ensures.value)
    | else-restricts w ↦ rw w.all-is
        (chosen_not (restricts c.args.catalog.now c.args.role.now) (λ p. policy_of p) c.args.policies.now c.loop-policy.policy-index (map bound_expr_of c.loop-policy.all) _ c.loop-policy.invariant.rest
        c.policy-item.result c.loop-policy-test.true c.policy-item.is w.if-restricts.ensures)
  ];
  movable = elim c.if-restricts.branch [
    | then-restricts+in_ok-push_predicate w ↦ rw w.all-is (movable_next (map bound_expr_of c.loop-policy.all) _ c.loop-policy.invariant.movable w.in_ok-push_predicate.ensures.movable _ w.in_ok-push_predicate.ensures.value)
    | else-restricts w ↦ rw w.all-is c.loop-policy.invariant.movable
  ];
}

pub returns-clause-value : goal.returns-clause-value
returns-clause-value g c =
    rw c.into_vec.ensures
    (chosen_over (restricts c.args.catalog.now c.args.role.now) (λ p. policy_of p) c.args.policies.now c.loop-policy.policy-index (map bound_expr_of c.loop-policy.all) _ c.loop-policy.invariant.rest (omega (arith, c.loop-policy-test.false)))

pub returns-clause-movable : goal.returns-clause-movable
returns-clause-movable g c = rw c.into_vec.ensures c.loop-policy.invariant.movable
