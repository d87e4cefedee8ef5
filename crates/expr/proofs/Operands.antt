-- The views of nodes with operands.
use Rattle.std.proofs.Common.{◌≡◌, ℕ, Bool, List, map, Box, sym, ap, ◌∙◌}
use Rattle.value.specs.Datum.{datum}
use Rattle.value.specs.declared.types.Value.{Value}
use Rattle.value.specs.declared.types.ColType.{ColType}
use Rattle.value.specs.declared.operators.Arithmetic as operators
use Rattle.value.specs.declared.operators.Comparison as operators'
use Rattle.value.specs.declared.operators.Aggregate.{Aggregate}
use Rattle.expr.specs.Bound as bound
use Rattle.expr.specs.View.{bound_expr_of}
use Rattle.expr.specs.declared.bound.BoundExpr.{BoundExpr, Negate, Arithmetic, Comparison, Between, In, IsNull, Not, Cast, Call}

-- ---- one operand

module _ {A : Type 0} (e : BoundExpr A) (offset : ℕ) (b : Box (BoundExpr A) A) (x : BoundExpr A) (q : x ≡ b.value) where
  pub negate_is : e ≡ Negate offset b → bound_expr_of e ≡ bound.Negate offset (bound_expr_of x)
  negate_is is = ap bound_expr_of is ∙ ap (λ y. bound.Negate offset (bound_expr_of y)) (sym q)

  pub is_null_is : (negated : Bool) → e ≡ IsNull negated offset b → bound_expr_of e ≡ bound.IsNull negated offset (bound_expr_of x)
  is_null_is negated is = ap bound_expr_of is ∙ ap (λ y. bound.IsNull negated offset (bound_expr_of y)) (sym q)

  pub not_is : e ≡ Not offset b → bound_expr_of e ≡ bound.Not offset (bound_expr_of x)
  not_is is = ap bound_expr_of is ∙ ap (λ y. bound.Not offset (bound_expr_of y)) (sym q)

  pub cast_is : (to : ColType) → e ≡ Cast offset to b → bound_expr_of e ≡ bound.Cast offset to (bound_expr_of x)
  cast_is to is = ap bound_expr_of is ∙ ap (λ y. bound.Cast offset to (bound_expr_of y)) (sym q)

  pub call_is : (aggregate : Aggregate) → e ≡ Call aggregate offset b → bound_expr_of e ≡ bound.Call aggregate offset (bound_expr_of x)
  call_is aggregate is = ap bound_expr_of is ∙ ap (λ y. bound.Call aggregate offset (bound_expr_of y)) (sym q)

module _ {A : Type 0} (e : BoundExpr A) (negated : Bool) (offset : ℕ) (vs : List (Value A)) (b : Box (BoundExpr A) A) (is : e ≡ In negated offset vs b) (x : BoundExpr A) (q : x ≡ b.value) where
  pub in_is : bound_expr_of e ≡ bound.In negated offset (map datum vs) (bound_expr_of x)
  in_is = ap bound_expr_of is ∙ ap (λ y. bound.In negated offset (map datum vs) (bound_expr_of y)) (sym q)

-- ---- two operands

module _ {A : Type 0} (e : BoundExpr A) (offset : ℕ) (a b : Box (BoundExpr A) A) (x : BoundExpr A) (q : x ≡ a.value) (y : BoundExpr A) (r : y ≡ b.value) where
  pub arithmetic_is : (o : operators.Arithmetic) → e ≡ Arithmetic o offset a b → bound_expr_of e ≡ bound.Arithmetic o offset (bound_expr_of x) (bound_expr_of y)
  arithmetic_is o is = ap bound_expr_of is ∙ ap (λ z. bound.Arithmetic o offset (bound_expr_of z) (bound_expr_of b.value)) (sym q) ∙ ap (λ z. bound.Arithmetic o offset (bound_expr_of x) (bound_expr_of z)) (sym r)

  pub comparison_is : (o : operators'.Comparison) → e ≡ Comparison o offset a b → bound_expr_of e ≡ bound.Comparison o offset (bound_expr_of x) (bound_expr_of y)
  comparison_is o is = ap bound_expr_of is ∙ ap (λ z. bound.Comparison o offset (bound_expr_of z) (bound_expr_of b.value)) (sym q) ∙ ap (λ z. bound.Comparison o offset (bound_expr_of x) (bound_expr_of z)) (sym r)

-- ---- three operands

module _ {A : Type 0} (e : BoundExpr A) (negated : Bool) (offset : ℕ) (a b c : Box (BoundExpr A) A) (is : e ≡ Between negated offset a b c) (x : BoundExpr A) (q : x ≡ a.value) (y : BoundExpr A) (r : y ≡ b.value) (z : BoundExpr A) (s : z ≡ c.value) where
  pub between_is : bound_expr_of e ≡ bound.Between negated offset (bound_expr_of x) (bound_expr_of y) (bound_expr_of z)
  between_is =
      ap bound_expr_of is
      ∙ ap (λ v. bound.Between negated offset (bound_expr_of v) (bound_expr_of b.value) (bound_expr_of c.value)) (sym q)
      ∙ ap (λ v. bound.Between negated offset (bound_expr_of x) (bound_expr_of v) (bound_expr_of c.value)) (sym r)
      ∙ ap (λ v. bound.Between negated offset (bound_expr_of x) (bound_expr_of y) (bound_expr_of v)) (sym s)
