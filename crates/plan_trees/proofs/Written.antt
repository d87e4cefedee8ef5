-- Trees, written part by part.
use Rattle.std.proofs.Common.{◌≡◌, ℕ, zero, suc, ◌+◌, ◌-◌, ◌<◌, if◌then◌else◌, List, [], ◌∷◌, ◌++◌, codes, length, get_or, drop, drop-cons, map, refl, sym, ap, ◌∙◌, append_assoc, arith}
use Rattle.std.proofs.lemmas.Bool.{eq-eqb, ne_eqb}
use Rattle.row_ast.specs.Ast.{Expr}
use Rattle.expr_texts.specs.ExprTexts.{expr_text}
use Rattle.plan_texts.specs.Plans.{OnCondition, PlanEntry}
use Rattle.plan_trees.specs.PlanTrees.{Node, details, detail_text, indentation, is_detail, on_text}

-- one further step to the right
pub indented_next : (o o1 all : List ℕ) (left : ℕ) → 0 < left → o1 ≡ o ++ codes "      " → o ++ indentation left ≡ all → o1 ++ indentation (left - 1) ≡ all
indented_next o o1 all zero l a h = absurd (omega arith)
indented_next o o1 all (suc k) l a h = let same : suc k - 1 ≡ k = omega arith in rw (same, a, append_assoc) h

-- one further filter
pub details_next : (entries : List PlanEntry) (n : Node) (o o1 all : List ℕ) (number : ℕ) (e : Expr) (es : List Expr) → o1 ≡ o ++ (if is_detail entries n number e then detail_text n e else [])
    → o ++ details entries n number (e ∷ es) ≡ all → o1 ++ details entries n (number + 1) es ≡ all
details_next entries n o o1 all number e es a h =
    let next : number + 1 ≡ suc number = omega arith in
    let line = if is_detail entries n number e then detail_text n e else [] in
    let rest = details entries n (suc number) es in
    ap (λ m. o1 ++ details entries n m es) next ∙ ap (λ t. t ++ rest) a ∙ append_assoc o line rest ∙ h

-- ---- several parts, one after another

pub two : (o o1 o2 a b : List ℕ) → o1 ≡ o ++ a → o2 ≡ o1 ++ b → o2 ≡ o ++ (a ++ b)
two o o1 o2 a b p q = q ∙ ap (λ t. t ++ b) p ∙ append_assoc o a b

pub three : (o o1 o2 o3 a b d : List ℕ) → o1 ≡ o ++ a → o2 ≡ o1 ++ b → o3 ≡ o2 ++ d → o3 ≡ o ++ ((a ++ b) ++ d)
three o o1 o2 o3 a b d p q r = two o o2 o3 (a ++ b) d (two o o1 o2 a b p q) r

pub four : (o o1 o2 o3 o4 a b d e : List ℕ) → o1 ≡ o ++ a → o2 ≡ o1 ++ b → o3 ≡ o2 ++ d → o4 ≡ o3 ++ e → o4 ≡ o ++ (((a ++ b) ++ d) ++ e)
four o o1 o2 o3 o4 a b d e p q r s = two o o3 o4 ((a ++ b) ++ d) e (three o o1 o2 o3 a b d p q r) s

pub five : (o o1 o2 o3 o4 o5 a b d e f : List ℕ) → o1 ≡ o ++ a → o2 ≡ o1 ++ b → o3 ≡ o2 ++ d → o4 ≡ o3 ++ e → o5 ≡ o4 ++ f → o5 ≡ o ++ ((((a ++ b) ++ d) ++ e) ++ f)
five o o1 o2 o3 o4 o5 a b d e f p q r s t = two o o4 o5 (((a ++ b) ++ d) ++ e) f (four o o1 o2 o3 o4 a b d e p q r s) t

-- ---- the ON of an entry

module _ {Y : Type 0} (view : Y → OnCondition) (ys : List Y) (k : ℕ) (y : Y) (entry : ℕ) (whole : List ℕ) (more : k < length ys) (is : y ≡ get_or ys k y) (so_far : on_text (map view (drop k ys)) entry ≡ whole) where
  split : map view (drop k ys) ≡ view y ∷ map view (drop (k + 1) ys)
  split = let e : k + 1 ≡ suc k = omega arith in rw (e, drop-cons ys k y more, ← is) refl

  pub on_found : (view y).entry ≡ entry → expr_text (view y).condition ≡ whole
  on_found same =
      let rest = on_text (map view (drop (k + 1) ys)) entry in
      ap (λ b. if b then expr_text (view y).condition else rest) (sym (eq-eqb (view y).entry entry same)) ∙ ap (λ os. on_text os entry) (sym split) ∙ so_far

  pub on_over : ((view y).entry ≡ entry → ⊥) → on_text (map view (drop (k + 1) ys)) entry ≡ whole
  on_over differ =
      let rest = on_text (map view (drop (k + 1) ys)) entry in
      ap (λ b. if b then expr_text (view y).condition else rest) (sym (ne_eqb (view y).entry entry differ)) ∙ ap (λ os. on_text os entry) (sym split) ∙ so_far
