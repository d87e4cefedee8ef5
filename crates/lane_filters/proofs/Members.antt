-- The members of a node, from the last to the first.
use Rattle.std.proofs.Common.{◌≡◌, ℕ, zero, suc, ◌+◌, ◌-◌, ◌<◌, ◌≤◌, true, false, ◌&&◌, List, [], ◌∷◌, length, drop, get_or, Option, Some, None, Result, Ok, Err, IfOk, IfSome, sym, ap, ◌∙◌, arith}
use Rattle.std.proofs.Math.Bool.{and-false}
use Rattle.value.specs.declared.types.ColType.{ColType}
use Rattle.expr.specs.Bound as bound
use Rattle.expr.specs.View.{bound_expr_of, bound_exprs}
use Rattle.expr.specs.Weights.{weight, all_weight}
use Rattle.expr.specs.declared.bound.BoundExpr.{BoundExpr}
use Rattle.expr.proofs.Walks.{exprs_lighter, exprs_step}
use Rattle.lane_filters.specs.ByLanes.{all_by_lanes, by_lanes}

dropped : {A : Type 0} (es : List (BoundExpr A)) (k : ℕ) → all_weight (bound_exprs (drop k es)) ≤ all_weight (bound_exprs es)
dropped es zero = omega arith
dropped [] (suc k) = omega arith
dropped (e ∷ es) (suc k) = let h = dropped es k in omega arith

module _ (types : List ColType) where
  all_of_rest : {A : Type 0} (es : List (BoundExpr A)) (k : ℕ) → all_by_lanes types (bound_exprs (drop k es)) ≡ false → all_by_lanes types (bound_exprs es) ≡ false
  all_of_rest es zero h = h
  all_of_rest [] (suc k) h = h
  all_of_rest (e ∷ es) (suc k) h = ap (λ b. by_lanes types (bound_expr_of e) && b) (all_of_rest es k h) ∙ and-false (by_lanes types (bound_expr_of e))

module _ {A : Type 0} (es : List (BoundExpr A)) (left : ℕ) (e : BoundExpr A) (positive : 0 < left) (within : left ≤ length es) (is : e ≡ get_or es (left - 1) e) where
  more : left - 1 < length es
  more = omega arith

  pub member_lighter : weight (bound_expr_of e) < all_weight (bound_exprs es)
  member_lighter = exprs_lighter es (left - 1) e more is (dropped es (left - 1))

  pub member_step : bound_exprs (drop (left - 1) es) ≡ bound.one_expr (bound_expr_of e) (bound_exprs (drop left es))
  member_step =
      let next : left - 1 + 1 ≡ left = omega arith in
      exprs_step es (left - 1) e more is ∙ ap (λ k. bound.one_expr (bound_expr_of e) (bound_exprs (drop k es))) next

  pub one_more : (types : List ColType) → all_by_lanes types (bound_exprs (drop left es)) ≡ true → true ≡ by_lanes types (bound_expr_of e) → all_by_lanes types (bound_exprs (drop (left - 1) es)) ≡ true
  one_more types h b = ap (all_by_lanes types) member_step ∙ ap (λ x. x && all_by_lanes types (bound_exprs (drop left es))) (sym b) ∙ h

  pub one_not : (types : List ColType) → false ≡ by_lanes types (bound_expr_of e) → false ≡ all_by_lanes types (bound_exprs es)
  one_not types b =
      sym (all_of_rest types es (left - 1) (ap (all_by_lanes types) member_step ∙ ap (λ x. x && all_by_lanes types (bound_exprs (drop left es))) (sym b)))

-- what follows of a value that may be there
pub weaker : {T E : Type 0} (r : Result (Option T) E) (P Q : T → Type 0) → ((t : T) → P t → Q t) → IfOk r (λ o. IfSome o P) → IfOk r (λ o. IfSome o Q)
weaker (Ok (Some t)) P Q f h = f t h
weaker (Ok None) P Q f h = tt
weaker (Err e) P Q f h = tt
