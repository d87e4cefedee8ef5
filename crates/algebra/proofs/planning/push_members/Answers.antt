use Rattle.std.proofs.Common.{◌≡◌, List, ◌++◌, [], ◌∷◌, map, true, append_assoc, append-nil, ap, sym, ◌∙◌}
use Rattle.std.proofs.lemmas.List.{nil_from_length}
use Rattle.predicates.proofs.Movables.{and_left, and_right}
use Rattle.expr.specs.Bound as bound
use Rattle.expr.specs.Movable.{movable, all_movable}
use Rattle.expr.specs.View.{bound_expr_of, bound_exprs}
use Rattle.expr.specs.declared.bound.BoundExpr.{BoundExpr}
use Rattle.algebra.proofs.planning.push_members.Goals as goal

abbrev seen : {A : Type 0} → List (BoundExpr A) → List bound.BoundExpr
seen es = map (λ e. bound_expr_of e) es

-- a member is taken from those that are left
module _ {A : Type 0} (left rest : List (BoundExpr A)) (e : BoundExpr A) (next : left ≡ e ∷ rest) where
  both_movable : all_movable (bound_exprs left) ≡ true → all_movable (bound_exprs (e ∷ rest)) ≡ true
  both_movable h = sym (ap (λ l. all_movable (bound_exprs l)) next) ∙ h

  first_movable : all_movable (bound_exprs left) ≡ true → movable (bound_expr_of e) ≡ true
  first_movable h = and_left (movable (bound_expr_of e)) (all_movable (bound_exprs rest)) (both_movable h)

  rest_movable : all_movable (bound_exprs left) ≡ true → all_movable (bound_exprs rest) ≡ true
  rest_movable h = and_right (movable (bound_expr_of e)) (all_movable (bound_exprs rest)) (both_movable h)

  member_put : (known new whole : List bound.BoundExpr) (f : bound.BoundExpr) → known ++ seen left ≡ whole → new ≡ known ++ f ∷ [] → f ≡ bound_expr_of e → new ++ seen rest ≡ whole
  member_put known new whole f so_far n is = rw (n, is) (append_assoc known (bound_expr_of e ∷ []) (seen rest) ∙ sym (ap (λ l. known ++ seen l) next) ∙ so_far)

none_left : {A : Type 0} (left : List (BoundExpr A)) (known whole : List bound.BoundExpr) → left ≡ [] → known ++ seen left ≡ whole → known ≡ whole
none_left left known whole none so_far = sym (append-nil known) ∙ sym (ap (λ l. known ++ seen l) none) ∙ so_far

pub of_movable-requires : goal.of_movable-requires
of_movable-requires g c = ap (λ e. movable (bound_expr_of e)) c.in_ok-member.ensures ∙ first_movable _ _ c.in-Some.member c.in-Some.ensures.steps.0 c.loop-member.invariant.movable

pub loop-member-preserved : goal.loop-member-preserved
loop-member-preserved g c = record {
  movable = rest_movable _ _ c.in-Some.member c.in-Some.ensures.steps.0 c.loop-member.invariant.movable;
  added = member_put _ _ c.in-Some.member c.in-Some.ensures.steps.0 c.loop-member.known _ _ _ c.loop-member.invariant.added c.in_ok-push.ensures.ok (c.of_movable.ensures ∙ ap (λ e. bound_expr_of e) c.in_ok-member.ensures);
}

pub returns : goal.returns
returns g c = none_left _ c.loop-member.known _ (nil_from_length c.loop-member.member-iterator.rest.items (sym c.loop-member.member-iterator.rest.ok.0 ∙ c.in-None.ensures.steps.0)) c.loop-member.invariant.added
