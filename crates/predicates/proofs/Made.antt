-- Members that are made anew, one after another up to all of them.
use Rattle.std.proofs.Common.{◌≡◌, ℕ, suc, ◌+◌, ◌<◌, ◌≤◌, List, [], ◌∷◌, ◌++◌, append_assoc, append-nil, length, map, get_or, drop, drop-cons, refl, sym, ap, ◌∙◌, arith}
use Rattle.std.proofs.Math.ListN.{drop_of_length-le}
use Rattle.std.proofs.lemmas.List.{map-append}
use Rattle.expr.specs.Bound.{BoundExpr, one_expr, one_arm, bound_exprs_of, bound_arms_of}
use Rattle.predicates.specs.Rebuilt.{rebuilt, all_rebuilt, arms_rebuilt}

module _ {X Y Z : Type 0} (f : X → Z) (h : Y → Z) where
  pub made_first : (ys : List Y) (none : List X) → none ≡ [] → map f none ++ map h (drop 0 ys) ≡ map h ys
  made_first ys none n = rw n refl

  module _ (ys : List Y) (k : ℕ) (old : List X) (whole : List Z) (so_far : map f old ++ map h (drop k ys) ≡ whole) where
    pub made_next : (y : Y) → k < length ys → y ≡ get_or ys k y → (x : X) (new : List X) → new ≡ old ++ x ∷ [] → f x ≡ h y → map f new ++ map h (drop (k + 1) ys) ≡ whole
    made_next y more is x new n e =
        let s : k + 1 ≡ suc k = omega arith in
        let d : map h (drop k ys) ≡ h y ∷ map h (drop (k + 1) ys) = rw (s, drop-cons ys k y more, ← is) refl in
        let m : map f new ≡ map f old ++ h y ∷ [] = rw (n, map-append, e) refl in
        rw m (append_assoc (map f old) (h y ∷ []) (map h (drop (k + 1) ys)) ∙ ap (λ zs. map f old ++ zs) (sym d) ∙ so_far)

    pub made_over : length ys ≤ k → map f old ≡ whole
    made_over l =
        let e : drop k ys ≡ [] = drop_of_length-le ys l in
        sym (append-nil (map f old)) ∙ ap (λ zs. map f old ++ map h zs) (sym e) ∙ so_far

module _ (at : BoundExpr → BoundExpr) {Y : Type 0} where
  pub all_of_each : (v : Y → BoundExpr) (ys : List Y) → bound_exprs_of (map (λ y. rebuilt at (v y)) ys) ≡ all_rebuilt at (bound_exprs_of (map v ys))
  all_of_each v [] = refl
  all_of_each v (y ∷ ys) = ap (one_expr (rebuilt at (v y))) (all_of_each v ys)

  pub arms_of_each : (v : Y → BoundExpr × BoundExpr) (ys : List Y) → bound_arms_of (map (λ y. (rebuilt at (v y).0, rebuilt at (v y).1)) ys) ≡ arms_rebuilt at (bound_arms_of (map v ys))
  arms_of_each v [] = refl
  arms_of_each v (y ∷ ys) = ap (one_arm (rebuilt at (v y).0) (rebuilt at (v y).1)) (arms_of_each v ys)
