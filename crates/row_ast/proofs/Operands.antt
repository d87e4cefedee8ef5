-- The views of nodes with operands.
use Rattle.std.proofs.Common.{◌≡◌, ◌∙◌, ℕ, Bool, Box, map, ap, sym}
use Rattle.memory.specs.declared.text.Items.{Items}
use Rattle.value.specs.Datum.{datum}
use Rattle.value.specs.declared.types.ColType.{ColType}
use Rattle.value.specs.declared.types.Value.{Value}
use Rattle.value.specs.declared.operators.Aggregate.{Aggregate}
use Rattle.value.specs.declared.operators.Arithmetic as operators
use Rattle.value.specs.declared.operators.Comparison as operators'
use Rattle.row_ast.specs.Ast as ast
use Rattle.row_ast.specs.View.{expr_of}
use Rattle.row_ast.specs.declared.expr.Expr.{Expr, Negate, Arithmetic, Comparison, Between, In, IsNull, Not, Cast, Call}

-- ---- one operand

module _ {A : Type 0} (e : Expr A) (offset : ℕ) (b : Box (Expr A) A) (x : Expr A) (q : x ≡ b.value) where
  pub negate_is : e ≡ Negate offset b → expr_of e ≡ ast.Negate offset (expr_of x)
  negate_is is = ap expr_of is ∙ ap (λ y. ast.Negate offset (expr_of y)) (sym q)

  pub in_is : (negated : Bool) (vs : Items (Value A) A) → e ≡ In negated offset vs b → expr_of e ≡ ast.In negated offset (map datum vs) (expr_of x)
  in_is negated vs is = ap expr_of is ∙ ap (λ y. ast.In negated offset (map datum vs) (expr_of y)) (sym q)

  pub is_null_is : (negated : Bool) → e ≡ IsNull negated offset b → expr_of e ≡ ast.IsNull negated offset (expr_of x)
  is_null_is negated is = ap expr_of is ∙ ap (λ y. ast.IsNull negated offset (expr_of y)) (sym q)

  pub not_is : e ≡ Not offset b → expr_of e ≡ ast.Not offset (expr_of x)
  not_is is = ap expr_of is ∙ ap (λ y. ast.Not offset (expr_of y)) (sym q)

  pub cast_is : (to : ColType) → e ≡ Cast offset to b → expr_of e ≡ ast.Cast offset to (expr_of x)
  cast_is to is = ap expr_of is ∙ ap (λ y. ast.Cast offset to (expr_of y)) (sym q)

  pub call_is : (f : Aggregate) → e ≡ Call f offset b → expr_of e ≡ ast.Call f offset (expr_of x)
  call_is f is = ap expr_of is ∙ ap (λ y. ast.Call f offset (expr_of y)) (sym q)

-- ---- several operands

module _ {A : Type 0} (e : Expr A) (offset : ℕ) (a b : Box (Expr A) A) (x : Expr A) (q : x ≡ a.value) (y : Expr A) (r : y ≡ b.value) where
  pub arithmetic_is : (o : operators.Arithmetic) → e ≡ Arithmetic o offset a b → expr_of e ≡ ast.Arithmetic o offset (expr_of x) (expr_of y)
  arithmetic_is o is = ap expr_of is ∙ ap (λ z. ast.Arithmetic o offset (expr_of z) (expr_of b.value)) (sym q) ∙ ap (λ z. ast.Arithmetic o offset (expr_of x) (expr_of z)) (sym r)

  pub comparison_is : (o : operators'.Comparison) → e ≡ Comparison o offset a b → expr_of e ≡ ast.Comparison o offset (expr_of x) (expr_of y)
  comparison_is o is = ap expr_of is ∙ ap (λ z. ast.Comparison o offset (expr_of z) (expr_of b.value)) (sym q) ∙ ap (λ z. ast.Comparison o offset (expr_of x) (expr_of z)) (sym r)

  module _ (c : Box (Expr A) A) (z : Expr A) (s : z ≡ c.value) where
    pub between_is : (negated : Bool) → e ≡ Between negated offset a b c → expr_of e ≡ ast.Between negated offset (expr_of x) (expr_of y) (expr_of z)
    between_is negated is =
        ap expr_of is ∙ ap (λ w. ast.Between negated offset (expr_of w) (expr_of b.value) (expr_of c.value)) (sym q) ∙ ap (λ w. ast.Between negated offset (expr_of x) (expr_of w) (expr_of c.value)) (sym r)
        ∙ ap (λ w. ast.Between negated offset (expr_of x) (expr_of y) (expr_of w)) (sym s)
