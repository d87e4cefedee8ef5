-- The steps of the test of columns over members and arms.
use Rattle.std.proofs.Common.{◌≡◌, ℕ, ◌&&◌, ◌+◌, ◌<◌, ◌≤◌, Bool, List, length, get_or, drop, sym, ap, ◌∙◌}
use Rattle.std.proofs.Math.Bool.{and_assoc, and-true}
use Rattle.row_ast.specs.Ast as ast
use Rattle.row_ast.specs.View.{expr_of, exprs, arms}
use Rattle.row_ast.specs.declared.expr.Expr.{Expr}
use Rattle.row_ast.specs.declared.expr.Arm.{Arm}
use Rattle.row_ast.proofs.Walks.{exprs_step, exprs_over, arms_step, arms_over}
use Rattle.plan_texts.specs.Columns.{all_columns, members_columns, arms_columns}

-- both of two tests that are known
pub both_are : (a b a' b' r : Bool) → r ≡ (a && b) → a ≡ a' → b ≡ b' → r ≡ (a' && b')
both_are a b a' b' r e p q = e ∙ ap (λ x. x && b) p ∙ ap (λ y. a' && y) q

module _ (test : ast.ColumnRef → Bool) where
  -- the test of an expression, through an equal one
  pub columns_as : (e f : ast.Expr) (r : Bool) → e ≡ f → r ≡ all_columns test f → r ≡ all_columns test e
  columns_as e f r is h = h ∙ sym (ap (all_columns test) is)

  module _ {A : Type 0} where
    pub members_step : (es : List (Expr A)) (k : ℕ) (e : Expr A) (more : k < length es) (is : e ≡ get_or es k e) (known new t whole : Bool)
        → (known && members_columns test (exprs (drop k es))) ≡ whole → t ≡ all_columns test (expr_of e) → new ≡ (known && t)
        → (new && members_columns test (exprs (drop (k + 1) es))) ≡ whole
    members_step es k e more is known new t whole so_far p q =
        let rest = members_columns test (exprs (drop (k + 1) es)) in
        ap (λ b. b && rest) q ∙ and_assoc known t rest ∙ ap (λ b. known && (b && rest)) p ∙ ap (λ ms. known && members_columns test ms) (sym (exprs_step es k e more is)) ∙ so_far

    pub members_over : (es : List (Expr A)) (k : ℕ) (known whole : Bool) → (known && members_columns test (exprs (drop k es))) ≡ whole → length es ≤ k → known ≡ whole
    members_over es k known whole so_far l = sym (and-true known) ∙ ap (λ ms. known && members_columns test ms) (sym (exprs_over es k l)) ∙ so_far

    pub arm_step : (as_ : List (Arm A)) (k : ℕ) (a : Arm A) (more : k < length as_) (is : a ≡ get_or as_ k a) (known new inner t u whole : Bool)
        → (known && arms_columns test (arms (drop k as_))) ≡ whole → t ≡ all_columns test (expr_of a.when) → u ≡ all_columns test (expr_of a.result)
        → inner ≡ (t && u) → new ≡ (known && inner) → (new && arms_columns test (arms (drop (k + 1) as_))) ≡ whole
    arm_step as_ k a more is known new inner t u whole so_far p q i r =
        let rest = arms_columns test (arms (drop (k + 1) as_)) in
        ap (λ b. b && rest) r ∙ and_assoc known inner rest ∙ ap (λ b. known && (b && rest)) i ∙ ap (λ b. known && b) (and_assoc t u rest)
        ∙ ap (λ b. known && (b && (u && rest))) p ∙ ap (λ b. known && (all_columns test (expr_of a.when) && (b && rest))) q
        ∙ ap (λ ms. known && arms_columns test ms) (sym (arms_step as_ k a more is)) ∙ so_far

    pub arms_over_all : (as_ : List (Arm A)) (k : ℕ) (known whole : Bool) → (known && arms_columns test (arms (drop k as_))) ≡ whole → length as_ ≤ k → known ≡ whole
    arms_over_all as_ k known whole so_far l = sym (and-true known) ∙ ap (λ ms. known && arms_columns test ms) (sym (arms_over as_ k l)) ∙ so_far
