-- The members of an AND or OR, one after another up to all of them.
use Rattle.std.proofs.Common.{◌≡◌, ℕ, ◌+◌, ◌<◌, ◌≤◌, Bool, true, false, not, List, [], ◌∷◌, ◌++◌, length, get_or, drop, refl, sym, ap, ◌∙◌}
use Rattle.expr.specs.Bound.{BoundExprs, no_expr, one_expr, And, Or}
use Rattle.expr.specs.View.{bound_expr_of, bound_exprs}
use Rattle.expr.specs.declared.bound.BoundExpr.{BoundExpr}
use Rattle.expr.proofs.Walks.{exprs_over, exprs_step}
use Rattle.predicates.specs.Inward.{before, carried, members_of, joined, all_carried}

pub before_nothing : (es : BoundExprs) → before es no_expr ≡ es
before_nothing no_expr = refl
before_nothing (one_expr e es) = ap (one_expr e) (before_nothing es)

pub before_assoc : (es fs gs : BoundExprs) → before (before es fs) gs ≡ before es (before fs gs)
before_assoc no_expr fs gs = refl
before_assoc (one_expr e es) fs gs = ap (one_expr e) (before_assoc es fs gs)

pub appended : {A : Type 0} (xs ys : List (BoundExpr A)) → bound_exprs (xs ++ ys) ≡ before (bound_exprs xs) (bound_exprs ys)
appended [] ys = refl
appended (x ∷ xs) ys = ap (one_expr (bound_expr_of x)) (appended xs ys)

all_of_one : (conjunction negate : Bool) (e : Rattle.expr.specs.Bound.BoundExpr) (es : BoundExprs) → all_carried conjunction negate (one_expr e es) ≡ before (members_of conjunction (carried negate e)) (all_carried conjunction negate es)
all_of_one true true e es = refl
all_of_one true false e es = refl
all_of_one false true e es = refl
all_of_one false false e es = refl

all_of_none : (conjunction negate : Bool) → all_carried conjunction negate no_expr ≡ no_expr
all_of_none true true = refl
all_of_none true false = refl
all_of_none false true = refl
all_of_none false false = refl

module _ (conjunction negate : Bool) {A : Type 0} (es : List (BoundExpr A)) (k : ℕ) (known whole : BoundExprs) (so_far : before known (all_carried conjunction negate (bound_exprs (drop k es))) ≡ whole) where
  pub carried_over : length es ≤ k → known ≡ whole
  carried_over l =
      sym (before_nothing known) ∙ ap (before known) (sym (all_of_none conjunction negate)) ∙ ap (λ fs. before known (all_carried conjunction negate fs)) (sym (exprs_over es k l)) ∙ so_far

  pub carried_next : (e : BoundExpr A) → k < length es → e ≡ get_or es k e → (next : Rattle.expr.specs.Bound.BoundExpr) → next ≡ carried negate (bound_expr_of e) → (new : BoundExprs) → new ≡ before known (members_of conjunction next)
      → before new (all_carried conjunction negate (bound_exprs (drop (k + 1) es))) ≡ whole
  carried_next e more is next n new q =
      let rest = all_carried conjunction negate (bound_exprs (drop (k + 1) es)) in
      ap (λ fs. before fs rest) (q ∙ ap (λ f. before known (members_of conjunction f)) n)
      ∙ before_assoc known (members_of conjunction (carried negate (bound_expr_of e))) rest
      ∙ ap (before known) (sym (all_of_one conjunction negate (bound_expr_of e) (bound_exprs (drop (k + 1) es))))
      ∙ ap (λ fs. before known (all_carried conjunction negate fs)) (sym (exprs_step es k e more is)) ∙ so_far

pub carried_and : (negate : Bool) (offset : ℕ) (es : BoundExprs) → carried negate (And offset es) ≡ joined (not negate) offset (all_carried (not negate) negate es)
carried_and true offset es = refl
carried_and false offset es = refl

pub carried_or : (negate : Bool) (offset : ℕ) (es : BoundExprs) → carried negate (Or offset es) ≡ joined negate offset (all_carried negate negate es)
carried_or true offset es = refl
carried_or false offset es = refl
