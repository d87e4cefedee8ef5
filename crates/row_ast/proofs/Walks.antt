-- The steps of a walk over the members of an expression.
use Rattle.std.proofs.Common.{◌≡◌, ℕ, suc, ◌+◌, ◌<◌, ◌≤◌, List, [], length, get_or, drop, drop-cons, Option, Some, None, Vec, Box, refl, sym, ap, ◌∙◌, arith}
use Rattle.std.proofs.Math.ListN.{drop_of_length-le}
use Rattle.row_ast.specs.Ast as ast
use Rattle.row_ast.specs.View.{expr_of, exprs, arms}
use Rattle.row_ast.specs.declared.expr.Expr.{Expr, And, Or, Case}
use Rattle.row_ast.specs.declared.expr.Arm.{Arm}
use Rattle.row_ast.proofs.Trees.{exprs_hidden, arms_hidden}
use Rattle.row_ast.specs.Weights.{weight, all_weight, arms_weight}

-- ---- the views of nodes with members

module _ {A : Type 0} (e : Expr A) (offset : ℕ) where
  module _ (v : Vec (Expr A) A) (es : List (Expr A)) (d : es ≡ v.items) where
    pub and_is : e ≡ And offset v → expr_of e ≡ ast.And offset (exprs es)
    and_is is = ap expr_of is ∙ ap (ast.And offset) (exprs_hidden v) ∙ ap (λ xs. ast.And offset (exprs xs)) (sym d)

    pub or_is : e ≡ Or offset v → expr_of e ≡ ast.Or offset (exprs es)
    or_is is = ap expr_of is ∙ ap (ast.Or offset) (exprs_hidden v) ∙ ap (λ xs. ast.Or offset (exprs xs)) (sym d)

  module _ (v : Vec (Arm A) A) (as_ : List (Arm A)) (d : as_ ≡ v.items) (o : Option (Box (Expr A) A)) (is : e ≡ Case offset v o) where
    pub case_none : o ≡ None → expr_of e ≡ ast.Case offset (arms as_) ast.Nothing
    case_none n = ap expr_of is ∙ ap (λ p. expr_of (Case offset v p)) n ∙ ap (λ x. ast.Case offset x ast.Nothing) (arms_hidden v) ∙ ap (λ xs. ast.Case offset (arms xs) ast.Nothing) (sym d)

    pub case_some : (b : Box (Expr A) A) → o ≡ Some b → expr_of e ≡ ast.Case offset (arms as_) (ast.Value (expr_of b.value))
    case_some b n = ap expr_of is ∙ ap (λ p. expr_of (Case offset v p)) n ∙ ap (λ x. ast.Case offset x (ast.Value (expr_of b.value))) (arms_hidden v) ∙ ap (λ xs. ast.Case offset (arms xs) (ast.Value (expr_of b.value))) (sym d)

    -- ELSE, in its box
    module _ (b : Box (Expr A) A) (n : o ≡ Some b) (x : Expr A) (q : x ≡ b.value) where
      pub case_other : expr_of e ≡ ast.Case offset (arms as_) (ast.Value (expr_of x))
      case_other = case_some b n ∙ ap (λ y. ast.Case offset (arms as_) (ast.Value (expr_of y))) (sym q)

      pub otherwise_lighter : weight (expr_of x) < weight (expr_of e)
      otherwise_lighter = let w = ap weight case_other in omega arith

    pub case_lighter : arms_weight (arms as_) < weight (expr_of e)
    case_lighter = go o refl
      where
        go : (p : Option (Box (Expr A) A)) → o ≡ p → arms_weight (arms as_) < weight (expr_of e)
        go None q = let w = ap weight (case_none q) in omega arith
        go (Some b) q = let w = ap weight (case_some b q) in omega arith

-- ---- the next member

module _ {A : Type 0} (es : List (Expr A)) (k : ℕ) where
  pub exprs_over : length es ≤ k → exprs (drop k es) ≡ ast.no_expr
  exprs_over l = let e : drop k es ≡ [] = drop_of_length-le es l in ap exprs e

  module _ (e : Expr A) (more : k < length es) (is : e ≡ get_or es k e) where
    pub exprs_step : exprs (drop k es) ≡ ast.one_expr (expr_of e) (exprs (drop (k + 1) es))
    exprs_step = let n : k + 1 ≡ suc k = omega arith in rw (n, drop-cons es k e more, ← is) refl

    pub exprs_lighter : all_weight (exprs (drop k es)) ≤ all_weight (exprs es) → weight (expr_of e) < all_weight (exprs es)
    exprs_lighter h = let s = ap all_weight exprs_step in omega arith

    pub exprs_still : all_weight (exprs (drop k es)) ≤ all_weight (exprs es) → all_weight (exprs (drop (k + 1) es)) ≤ all_weight (exprs es)
    exprs_still h = let s = ap all_weight exprs_step in omega arith

module _ {A : Type 0} (as_ : List (Arm A)) (k : ℕ) where
  pub arms_over : length as_ ≤ k → arms (drop k as_) ≡ ast.no_arm
  arms_over l = let e : drop k as_ ≡ [] = drop_of_length-le as_ l in ap arms e

  module _ (a : Arm A) (more : k < length as_) (is : a ≡ get_or as_ k a) where
    pub arms_step : arms (drop k as_) ≡ ast.one_arm (expr_of a.when) (expr_of a.result) (arms (drop (k + 1) as_))
    arms_step = let n : k + 1 ≡ suc k = omega arith in rw (n, drop-cons as_ k a more, ← is) refl

    pub when_lighter : arms_weight (arms (drop k as_)) ≤ arms_weight (arms as_) → weight (expr_of a.when) < arms_weight (arms as_)
    when_lighter h = let s = ap arms_weight arms_step in omega arith

    pub result_lighter : arms_weight (arms (drop k as_)) ≤ arms_weight (arms as_) → weight (expr_of a.result) < arms_weight (arms as_)
    result_lighter h = let s = ap arms_weight arms_step in omega arith

    pub arms_still : arms_weight (arms (drop k as_)) ≤ arms_weight (arms as_) → arms_weight (arms (drop (k + 1) as_)) ≤ arms_weight (arms as_)
    arms_still h = let s = ap arms_weight arms_step in omega arith
