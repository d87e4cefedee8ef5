-- The views of trees that are made of named parts, and of the members of a condition.
use Rattle.std.proofs.Common.{◌≡◌, Bool, ℕ, List, [], ◌∷◌, ◌++◌, map, Some, None, Result, IfOk, Vec, Box, refl, ap, ◌∙◌}
use Rattle.std.proofs.lemmas.Result.{IfOk-weaker}
use Rattle.value.specs.Datum.{Datum}
use Rattle.row_ast.specs.Ast as ast
use Rattle.row_ast.specs.View.{expr_of, exprs, arms}
use Rattle.row_ast.specs.declared.expr.Expr.{Expr, And, Or, Case}
use Rattle.row_ast.specs.declared.expr.Arm.{Arm}
use Rattle.row_ast.proofs.Trees.{exprs_hidden, arms_hidden}
use Rattle.expr.specs.Bound.{BoundExpr, bound_exprs_of, bound_arms_of}
use Rattle.scope.specs.Entry.{Entry}
use Rattle.bound_plans.specs.Named.{named, named_members, named_arms}

-- ---- nodes that are made of parts

module _ {A E : Type 0} (r : Result (Box (Expr A) A) E) where
  pub made_of : (x : Expr A) (e : ast.Expr) → expr_of x ≡ e → IfOk r (λ b. b.value ≡ x) → IfOk r (λ b. expr_of b.value ≡ e)
  made_of x e q h = IfOk-weaker r _ _ (λ b is. ap expr_of is ∙ q) h

  pub made_as : (e f : ast.Expr) → e ≡ f → IfOk r (λ b. expr_of b.value ≡ f) → IfOk r (λ b. expr_of b.value ≡ e)
  made_as e f q h = rw q h

pub between_made : (negated : Bool) (offset : ℕ) (e x y x' y' z : ast.Expr) → e ≡ ast.Between negated offset x y z → x' ≡ x → y' ≡ y → e ≡ ast.Between negated offset x' y' z
between_made negated offset e x y x' y' z is q r = rw (q, r) is

pub in_made : (negated : Bool) (offset : ℕ) (e x : ast.Expr) (ds ds' : List Datum) → e ≡ ast.In negated offset ds x → ds' ≡ ds → e ≡ ast.In negated offset ds' x
in_made negated offset e x ds ds' is q = rw q is

-- ---- nodes with members that are made

module _ {A E : Type 0} (offset : ℕ) (v : Vec (Expr A) A) (es : ast.Exprs) (are : exprs v.items ≡ es) (r : Result (Box (Expr A) A) E) where
  pub and_made : IfOk r (λ b. b.value ≡ And offset v) → IfOk r (λ b. expr_of b.value ≡ ast.And offset es)
  and_made h = IfOk-weaker r _ _ (λ b is. ap expr_of is ∙ ap (ast.And offset) (exprs_hidden v ∙ are)) h

  pub or_made : IfOk r (λ b. b.value ≡ Or offset v) → IfOk r (λ b. expr_of b.value ≡ ast.Or offset es)
  or_made h = IfOk-weaker r _ _ (λ b is. ap expr_of is ∙ ap (ast.Or offset) (exprs_hidden v ∙ are)) h

module _ {A E : Type 0} (offset : ℕ) (v : Vec (Arm A) A) (as_ : ast.Arms) (are : arms v.items ≡ as_) (r : Result (Box (Expr A) A) E) where
  pub none_made : IfOk r (λ b. b.value ≡ Case offset v None) → IfOk r (λ b. expr_of b.value ≡ ast.Case offset as_ ast.Nothing)
  none_made h = IfOk-weaker r _ _ (λ b is. ap expr_of is ∙ ap (λ x. ast.Case offset x ast.Nothing) (arms_hidden v ∙ are)) h

  pub some_made : (p : Box (Expr A) A) (e : ast.Expr) → expr_of p.value ≡ e → IfOk r (λ b. b.value ≡ Case offset v (Some p)) → IfOk r (λ b. expr_of b.value ≡ ast.Case offset as_ (ast.Value e))
  some_made p e q h =
      IfOk-weaker r _ _ (λ b is. ap expr_of is ∙ ap (λ x. ast.Case offset x (ast.Value (expr_of p.value))) (arms_hidden v ∙ are) ∙ ap (λ x. ast.Case offset as_ (ast.Value x)) q) h

-- ---- the members of a condition

-- none yet, and all those that are left
pub none_yet : {X Z : Type 0} (v : X → Z) (none : List X) (whole : List Z) → none ≡ [] → map v none ++ whole ≡ whole
none_yet v none whole n = rw n refl

module _ (entries : List Entry) where
  abbrev pub named_arm : BoundExpr × BoundExpr → ast.Expr × ast.Expr
  named_arm a = (named entries a.0, named entries a.1)

  pub members_named : (es : List BoundExpr) → ast.exprs_of (map (named entries) es) ≡ named_members entries (bound_exprs_of es)
  members_named [] = refl
  members_named (e ∷ es) = ap (ast.one_expr (named entries e)) (members_named es)

  pub arms_named : (as_ : List (BoundExpr × BoundExpr)) → ast.arms_of (map named_arm as_) ≡ named_arms entries (bound_arms_of as_)
  arms_named [] = refl
  arms_named (a ∷ as_) = ap (ast.one_arm (named entries a.0) (named entries a.1)) (arms_named as_)
