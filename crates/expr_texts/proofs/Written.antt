-- Texts that are written part by part.
use Rattle.std.proofs.Common.{◌≡◌, ℕ, List, ◌++◌, codes, Option, Some, None, refl, ◌∙◌, append_assoc}
use Rattle.value.specs.declared.operators.Comparison.{Comparison}
use Rattle.row_ast.specs.Ast as ast
use Rattle.row_ast.specs.Ast.{Expr, Exprs, Arms, one_expr, one_arm}
use Rattle.expr_texts.specs.ExprTexts.{sign_text, expr_text, further_text, arms_text, else_text}

abbrev Text : Type 0
Text = List ℕ

-- a part between parentheses
pub enclosed : (o o1 o2 o3 t : Text) → o1 ≡ o ++ codes "(" → o2 ≡ o1 ++ t → o3 ≡ o2 ++ codes ")" → o3 ≡ o ++ (codes "(" ++ t ++ codes ")")
enclosed o o1 o2 o3 t a b c = rw (c, b, a) (simp append_assoc)

-- a comparison
pub compared : (o o1 o2 o3 o4 o5 : Text) (op : Comparison) (at : ℕ) (e f : Expr) → o1 ≡ o ++ codes "(" → o2 ≡ o1 ++ expr_text e → o3 ≡ o2 ++ (codes " " ++ sign_text op ++ codes " ") → o4 ≡ o3 ++ expr_text f → o5 ≡ o4 ++ codes ")"
    → o5 ≡ o ++ expr_text (ast.Comparison op at e f)
compared o o1 o2 o3 o4 o5 op at e f a b c d h = rw (h, d, c, b, a) (simp append_assoc)

-- a CASE, after its arms and its ELSE
pub cased : (o o1 o2 o3 o4 : Text) (at : ℕ) (as_ : Arms) (other : ast.Otherwise) → o1 ≡ o ++ codes "(CASE" → o2 ≡ o1 ++ arms_text as_ → o3 ≡ o2 ++ else_text other → o4 ≡ o3 ++ codes " END)" → o4 ≡ o ++ expr_text (ast.Case at as_ other)
cased o o1 o2 o3 o4 at as_ other a b c d = rw (d, c, b, a) (simp append_assoc)

-- ELSE and its value
pub with_else : (o o1 o2 : Text) (e : Expr) → o1 ≡ o ++ codes " ELSE " → o2 ≡ o1 ++ expr_text e → o2 ≡ o ++ else_text (ast.Value e)
with_else o o1 o2 e a b = rw (b, a) (simp append_assoc)

-- one further member
pub member_next : (o o1 o2 all word : Text) (e : Expr) (es : Exprs) → o1 ≡ o ++ word → o2 ≡ o1 ++ expr_text e → o ++ further_text word (one_expr e es) ≡ all → o2 ++ further_text word es ≡ all
member_next o o1 o2 all word e es a b h = let same : o2 ++ further_text word es ≡ o ++ further_text word (one_expr e es) = rw (b, a) (simp append_assoc) in same ∙ h

-- one further arm
pub arm_next : (o o1 o2 o3 o4 all : Text) (when result : Expr) (as_ : Arms) → o1 ≡ o ++ codes " WHEN " → o2 ≡ o1 ++ expr_text when → o3 ≡ o2 ++ codes " THEN " → o4 ≡ o3 ++ expr_text result → o ++ arms_text (one_arm when result as_) ≡ all → o4 ++ arms_text as_ ≡ all
arm_next o o1 o2 o3 o4 all when result as_ a b c d h = let same : o4 ++ arms_text as_ ≡ o ++ arms_text (one_arm when result as_) = rw (d, c, b, a) (simp append_assoc) in same ∙ h

-- a value that is not there
pub no_some : {X : Type 0} (o : Option X) → ((x : X) → o ≡ Some x → ⊥) → o ≡ None
no_some None h = refl
no_some (Some x) h = absurd (h x refl)
