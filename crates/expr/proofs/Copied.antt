-- The views of copies, and the steps of copying members.
use Rattle.std.proofs.Common.{◌≡◌, Bool, ℕ, suc, ◌+◌, ◌<◌, ◌≤◌, List, [], ◌∷◌, ◌++◌, append_assoc, append-nil, length, map, get_or, drop, drop-cons, Some, None, Result, IfOk, Vec, Box, refl, sym, ap, ◌∙◌, arith}
use Rattle.std.proofs.Math.ListN.{drop_of_length-le}
use Rattle.std.proofs.lemmas.List.{map-append}
use Rattle.std.proofs.lemmas.Result.{IfOk-weaker}
use Rattle.value.specs.Datum.{Datum}
use Rattle.expr.specs.Bound as bound
use Rattle.expr.specs.View.{bound_expr_of, bound_exprs, bound_arms}
use Rattle.expr.specs.declared.bound.BoundExpr.{BoundExpr, And, Or, Case}
use Rattle.expr.specs.declared.bound.BoundArm.{BoundArm}
use Rattle.expr.proofs.Trees.{bound_exprs_hidden, bound_arms_hidden}

-- ---- nodes that are made of copies

module _ {A E : Type 0} (r : Result (Box (BoundExpr A) A) E) where
  pub made_of : (x : BoundExpr A) (e : bound.BoundExpr) → bound_expr_of x ≡ e → IfOk r (λ b. b.value ≡ x) → IfOk r (λ b. bound_expr_of b.value ≡ e)
  made_of x e q h = IfOk-weaker r _ _ (λ b is. ap bound_expr_of is ∙ q) h

  pub copied_as : (e f : bound.BoundExpr) → e ≡ f → IfOk r (λ b. bound_expr_of b.value ≡ f) → IfOk r (λ b. bound_expr_of b.value ≡ e)
  copied_as e f q h = rw q h

pub between_copied : (negated : Bool) (offset : ℕ) (e x y x' y' z : bound.BoundExpr) → e ≡ bound.Between negated offset x y z → x' ≡ x → y' ≡ y → e ≡ bound.Between negated offset x' y' z
between_copied negated offset e x y x' y' z is q r = rw (q, r) is

pub in_copied : (negated : Bool) (offset : ℕ) (e x : bound.BoundExpr) (ds ds' : List Datum) → e ≡ bound.In negated offset ds x → ds' ≡ ds → e ≡ bound.In negated offset ds' x
in_copied negated offset e x ds ds' is q = rw q is

-- ---- nodes with members that are made of copies

module _ {A E : Type 0} (offset : ℕ) (v : Vec (BoundExpr A) A) (es : bound.BoundExprs) (are : bound_exprs v.items ≡ es) (r : Result (Box (BoundExpr A) A) E) where
  pub and_copied : IfOk r (λ b. b.value ≡ And offset v) → IfOk r (λ b. bound_expr_of b.value ≡ bound.And offset es)
  and_copied h = IfOk-weaker r _ _ (λ b is. ap bound_expr_of is ∙ ap (bound.And offset) (bound_exprs_hidden v ∙ are)) h

  pub or_copied : IfOk r (λ b. b.value ≡ Or offset v) → IfOk r (λ b. bound_expr_of b.value ≡ bound.Or offset es)
  or_copied h = IfOk-weaker r _ _ (λ b is. ap bound_expr_of is ∙ ap (bound.Or offset) (bound_exprs_hidden v ∙ are)) h

module _ {A E : Type 0} (offset : ℕ) (v : Vec (BoundArm A) A) (as_ : bound.BoundArms) (are : bound_arms v.items ≡ as_) (r : Result (Box (BoundExpr A) A) E) where
  pub none_copied : IfOk r (λ b. b.value ≡ Case offset v None) → IfOk r (λ b. bound_expr_of b.value ≡ bound.Case offset as_ bound.Nothing)
  none_copied h = IfOk-weaker r _ _ (λ b is. ap bound_expr_of is ∙ ap (λ x. bound.Case offset x bound.Nothing) (bound_arms_hidden v ∙ are)) h

  pub some_copied : (p : Box (BoundExpr A) A) (e : bound.BoundExpr) → bound_expr_of p.value ≡ e → IfOk r (λ b. b.value ≡ Case offset v (Some p)) → IfOk r (λ b. bound_expr_of b.value ≡ bound.Case offset as_ (bound.Value e))
  some_copied p e q h =
      IfOk-weaker r _ _ (λ b is. ap bound_expr_of is ∙ ap (λ x. bound.Case offset x (bound.Value (bound_expr_of p.value))) (bound_arms_hidden v ∙ are) ∙ ap (λ x. bound.Case offset as_ (bound.Value x)) q) h

-- ---- members, as f sees them, copied one after another

pub copied_first : {X Z : Type 0} (f : X → Z) (ys none : List X) → none ≡ [] → map f none ++ map f (drop 0 ys) ≡ map f ys
copied_first f ys none n = rw n refl

module _ {X Z : Type 0} (f : X → Z) (ys : List X) (k : ℕ) (old : List X) (whole : List Z) (so_far : map f old ++ map f (drop k ys) ≡ whole) where
  pub copied_next : (y : X) → k < length ys → y ≡ get_or ys k y → (x : X) (new : List X) → new ≡ old ++ x ∷ [] → f x ≡ f y → map f new ++ map f (drop (k + 1) ys) ≡ whole
  copied_next y more is x new n e =
      let s : k + 1 ≡ suc k = omega arith in
      let d : map f (drop k ys) ≡ f y ∷ map f (drop (k + 1) ys) = rw (s, drop-cons ys k y more, ← is) refl in
      let m : map f new ≡ map f old ++ f y ∷ [] = rw (n, map-append, e) refl in
      rw m (append_assoc (map f old) (f y ∷ []) (map f (drop (k + 1) ys)) ∙ ap (λ zs. map f old ++ zs) (sym d) ∙ so_far)

  pub copied_over : length ys ≤ k → map f old ≡ whole
  copied_over l =
      let e : drop k ys ≡ [] = drop_of_length-le ys l in
      sym (append-nil (map f old)) ∙ ap (λ zs. map f old ++ map f zs) (sym e) ∙ so_far
