-- The steps of a walk over the members of an expression.
use Rattle.std.proofs.Common.{◌≡◌, Bool, true, false, ◌&&◌, ℕ, suc, ◌+◌, ◌<◌, ◌≤◌, List, [], ◌∷◌, ◌++◌, append_assoc, append-nil, length, map, get_or, drop, drop-cons, Option, Some, None, Vec, Box, refl, sym, ap, ◌∙◌, arith}
use Rattle.std.proofs.Math.ListN.{drop_of_length-le}
use Rattle.std.proofs.lemmas.List.{map-append}
use Rattle.expr.specs.Bound as bound
use Rattle.expr.specs.View.{bound_expr_of, bound_exprs, bound_arms, otherwise_of}
use Rattle.expr.specs.declared.bound.BoundExpr.{BoundExpr, And, Or, Case}
use Rattle.expr.specs.declared.bound.BoundArm.{BoundArm}
use Rattle.expr.proofs.Trees.{bound_exprs_hidden, bound_arms_hidden}
use Rattle.expr.specs.Weights.{weight, all_weight, arms_weight}

-- ---- the views of nodes with members

module _ {A : Type 0} (e : BoundExpr A) (offset : ℕ) where
  module _ (v : Vec (BoundExpr A) A) (es : List (BoundExpr A)) (d : es ≡ v.items) where
    pub and_is : e ≡ And offset v → bound_expr_of e ≡ bound.And offset (bound_exprs es)
    and_is is = ap bound_expr_of is ∙ ap (bound.And offset) (bound_exprs_hidden v) ∙ ap (λ xs. bound.And offset (bound_exprs xs)) (sym d)

    pub or_is : e ≡ Or offset v → bound_expr_of e ≡ bound.Or offset (bound_exprs es)
    or_is is = ap bound_expr_of is ∙ ap (bound.Or offset) (bound_exprs_hidden v) ∙ ap (λ xs. bound.Or offset (bound_exprs xs)) (sym d)

  module _ (v : Vec (BoundArm A) A) (as_ : List (BoundArm A)) (d : as_ ≡ v.items) (o : Option (Box (BoundExpr A) A)) (is : e ≡ Case offset v o) where
    pub case_none : o ≡ None → bound_expr_of e ≡ bound.Case offset (bound_arms as_) bound.Nothing
    case_none n = ap bound_expr_of is ∙ ap (λ p. bound_expr_of (Case offset v p)) n ∙ ap (λ x. bound.Case offset x bound.Nothing) (bound_arms_hidden v) ∙ ap (λ xs. bound.Case offset (bound_arms xs) bound.Nothing) (sym d)

    pub case_some : (b : Box (BoundExpr A) A) → o ≡ Some b → bound_expr_of e ≡ bound.Case offset (bound_arms as_) (bound.Value (bound_expr_of b.value))
    case_some b n = ap bound_expr_of is ∙ ap (λ p. bound_expr_of (Case offset v p)) n ∙ ap (λ x. bound.Case offset x (bound.Value (bound_expr_of b.value))) (bound_arms_hidden v) ∙ ap (λ xs. bound.Case offset (bound_arms xs) (bound.Value (bound_expr_of b.value))) (sym d)

    pub case_is : bound_expr_of e ≡ bound.Case offset (bound_arms as_) (otherwise_of o)
    case_is = go o refl
      where
        go : (p : Option (Box (BoundExpr A) A)) → o ≡ p → bound_expr_of e ≡ bound.Case offset (bound_arms as_) (otherwise_of o)
        go None q = case_none q ∙ ap (λ p. bound.Case offset (bound_arms as_) (otherwise_of p)) (sym q)
        go (Some b) q = case_some b q ∙ ap (λ p. bound.Case offset (bound_arms as_) (otherwise_of p)) (sym q)

    pub case_lighter : arms_weight (bound_arms as_) < weight (bound_expr_of e)
    case_lighter = go o refl
      where
        go : (p : Option (Box (BoundExpr A) A)) → o ≡ p → arms_weight (bound_arms as_) < weight (bound_expr_of e)
        go None q = let w = ap weight (case_none q) in omega arith
        go (Some b) q = let w = ap weight (case_some b q) in omega arith

-- ---- the next member

module _ {A : Type 0} (es : List (BoundExpr A)) (k : ℕ) where
  pub exprs_over : length es ≤ k → bound_exprs (drop k es) ≡ bound.no_expr
  exprs_over l = let e : drop k es ≡ [] = drop_of_length-le es l in ap bound_exprs e

  module _ (e : BoundExpr A) (more : k < length es) (is : e ≡ get_or es k e) where
    pub exprs_step : bound_exprs (drop k es) ≡ bound.one_expr (bound_expr_of e) (bound_exprs (drop (k + 1) es))
    exprs_step = let n : k + 1 ≡ suc k = omega arith in rw (n, drop-cons es k e more, ← is) refl

    pub exprs_lighter : all_weight (bound_exprs (drop k es)) ≤ all_weight (bound_exprs es) → weight (bound_expr_of e) < all_weight (bound_exprs es)
    exprs_lighter h = let s = ap all_weight exprs_step in omega arith

    pub exprs_still : all_weight (bound_exprs (drop k es)) ≤ all_weight (bound_exprs es) → all_weight (bound_exprs (drop (k + 1) es)) ≤ all_weight (bound_exprs es)
    exprs_still h = let s = ap all_weight exprs_step in omega arith

module _ {A : Type 0} (as_ : List (BoundArm A)) (k : ℕ) where
  pub arms_over : length as_ ≤ k → bound_arms (drop k as_) ≡ bound.no_arm
  arms_over l = let e : drop k as_ ≡ [] = drop_of_length-le as_ l in ap bound_arms e

  module _ (a : BoundArm A) (more : k < length as_) (is : a ≡ get_or as_ k a) where
    pub arms_step : bound_arms (drop k as_) ≡ bound.one_arm (bound_expr_of a.when) (bound_expr_of a.result) (bound_arms (drop (k + 1) as_))
    arms_step = let n : k + 1 ≡ suc k = omega arith in rw (n, drop-cons as_ k a more, ← is) refl

    pub when_lighter : arms_weight (bound_arms (drop k as_)) ≤ arms_weight (bound_arms as_) → weight (bound_expr_of a.when) < arms_weight (bound_arms as_)
    when_lighter h = let s = ap arms_weight arms_step in omega arith

    pub result_lighter : arms_weight (bound_arms (drop k as_)) ≤ arms_weight (bound_arms as_) → weight (bound_expr_of a.result) < arms_weight (bound_arms as_)
    result_lighter h = let s = ap arms_weight arms_step in omega arith

    pub arms_still : arms_weight (bound_arms (drop k as_)) ≤ arms_weight (bound_arms as_) → arms_weight (bound_arms (drop (k + 1) as_)) ≤ arms_weight (bound_arms as_)
    arms_still h = let s = ap arms_weight arms_step in omega arith

-- ---- the parts of an expression, in written order, after those that are known

module _ {X : Type 0} (of : bound.BoundExpr → List X) (of_all : bound.BoundExprs → List X) (of_arms : bound.BoundArms → List X) where
  -- the parts of members and of arms are those of each
  pub record Gathers : Type 0 where
    pub none : of_all bound.no_expr ≡ []
    pub one : (e : bound.BoundExpr) (es : bound.BoundExprs) → of_all (bound.one_expr e es) ≡ of e ++ of_all es
    pub no_arm : of_arms bound.no_arm ≡ []
    pub one_arm : (when result : bound.BoundExpr) (as_ : bound.BoundArms) → of_arms (bound.one_arm when result as_) ≡ of when ++ (of result ++ of_arms as_)
    pub otherwise_none : (offset : ℕ) (as_ : bound.BoundArms) → of (bound.Case offset as_ bound.Nothing) ≡ of_arms as_ ++ []
    pub otherwise_some : (offset : ℕ) (as_ : bound.BoundArms) (o : bound.BoundExpr) → of (bound.Case offset as_ (bound.Value o)) ≡ of_arms as_ ++ of o

  module _ (h : Gathers) (known whole : List X) where
    pub parts_step : {A : Type 0} (es : List (BoundExpr A)) (k : ℕ) (e : BoundExpr A) → k < length es → e ≡ get_or es k e → (new : List X)
        → known ++ of_all (bound_exprs (drop k es)) ≡ whole → new ≡ known ++ of (bound_expr_of e) → new ++ of_all (bound_exprs (drop (k + 1) es)) ≡ whole
    parts_step es k e more is new so_far n =
        rw n (append_assoc known (of (bound_expr_of e)) (of_all (bound_exprs (drop (k + 1) es))) ∙ ap (λ l. known ++ l) (sym (h.one (bound_expr_of e) (bound_exprs (drop (k + 1) es)))) ∙ ap (λ es. known ++ of_all es) (sym (exprs_step es k e more is)) ∙ so_far)

    pub parts_over : {A : Type 0} (es : List (BoundExpr A)) (k : ℕ) → known ++ of_all (bound_exprs (drop k es)) ≡ whole → length es ≤ k → known ≡ whole
    parts_over es k so_far l = sym (append-nil known) ∙ ap (λ l. known ++ l) (sym h.none) ∙ ap (λ es. known ++ of_all es) (sym (exprs_over es k l)) ∙ so_far

    pub arm_parts_step : {A : Type 0} (as_ : List (BoundArm A)) (k : ℕ) (a : BoundArm A) → k < length as_ → a ≡ get_or as_ k a → (mid new : List X)
        → known ++ of_arms (bound_arms (drop k as_)) ≡ whole → mid ≡ known ++ of (bound_expr_of a.when) → new ≡ mid ++ of (bound_expr_of a.result) → new ++ of_arms (bound_arms (drop (k + 1) as_)) ≡ whole
    arm_parts_step as_ k a more is mid new so_far m n =
        let rest = of_arms (bound_arms (drop (k + 1) as_)) in
        rw (n, m)
        (append_assoc (known ++ of (bound_expr_of a.when)) (of (bound_expr_of a.result)) rest
        ∙ append_assoc known (of (bound_expr_of a.when)) (of (bound_expr_of a.result) ++ rest)
        ∙ ap (λ l. known ++ l) (sym (h.one_arm (bound_expr_of a.when) (bound_expr_of a.result) (bound_arms (drop (k + 1) as_))))
        ∙ ap (λ as_. known ++ of_arms as_) (sym (arms_step as_ k a more is)) ∙ so_far)

    pub arm_parts_over : {A : Type 0} (as_ : List (BoundArm A)) (k : ℕ) → known ++ of_arms (bound_arms (drop k as_)) ≡ whole → length as_ ≤ k → known ≡ whole
    arm_parts_over as_ k so_far l = sym (append-nil known) ∙ ap (λ l. known ++ l) (sym h.no_arm) ∙ ap (λ as_. known ++ of_arms as_) (sym (arms_over as_ k l)) ∙ so_far

  -- ---- the parts of a CASE, after those that are known

  module _ (h : Gathers) (known : List X) (e : bound.BoundExpr) (offset : ℕ) (as_ : bound.BoundArms) where
    pub case_parts_none : (new : List X) → e ≡ bound.Case offset as_ bound.Nothing → new ≡ known ++ of_arms as_ → new ≡ known ++ of e
    case_parts_none new is n = n ∙ ap (λ l. known ++ l) (sym (append-nil (of_arms as_)) ∙ sym (ap of is ∙ h.otherwise_none offset as_))

    pub case_parts_some : (o : bound.BoundExpr) (mid new : List X) → e ≡ bound.Case offset as_ (bound.Value o) → mid ≡ known ++ of_arms as_ → new ≡ mid ++ of o → new ≡ known ++ of e
    case_parts_some o mid new is m n = n ∙ ap (λ l. l ++ of o) m ∙ append_assoc known (of_arms as_) (of o) ∙ ap (λ l. known ++ l) (sym (ap of is ∙ h.otherwise_some offset as_ o))

-- ---- the parts of two members and of three, after those that are known

pub two_parts : {X : Type 0} (known mid new a a' b : List X) → a ≡ a' → mid ≡ known ++ a → new ≡ mid ++ b → new ≡ known ++ (a' ++ b)
two_parts known mid new a a' b e m n = rw (n, m, e) (append_assoc known a' b)

pub three_parts : {X : Type 0} (known mid mid' new a a' b b' d : List X) → a ≡ a' → b ≡ b' → mid ≡ known ++ a → mid' ≡ mid ++ b → new ≡ mid' ++ d → new ≡ known ++ (a' ++ (b' ++ d))
three_parts known mid mid' new a a' b b' d e f m m' n = rw (n, m', m, e, f) (append_assoc (known ++ a') b' d ∙ append_assoc known a' (b' ++ d))

-- ---- a part that is pushed, as it is viewed

pub one_more : {X Z : Type 0} (v : X → Z) (old new : List X) (x : X) (parts : List Z) → new ≡ old ++ x ∷ [] → parts ≡ v x ∷ [] → map v new ≡ map v old ++ parts
one_more v old new x parts n e = rw (n, map-append, e) refl

-- ---- the arms that are left, after a movable one

pub both_true : (when result rest all : Bool) → true ≡ when → true ≡ result → all ≡ (when && result) && rest → rest ≡ all
both_true true true rest all p q e = sym e
both_true true false rest all p q e = cc
both_true false result rest all p q e = cc
