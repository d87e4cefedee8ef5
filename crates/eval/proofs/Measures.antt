-- That recursion ends: an expression counts twice its weight, a CASE one more than its parts.
use Rattle.std.proofs.Common.{◌≡◌, ℕ, suc, ◌+◌, ◌<◌, Option, Some, Box, ap, sym, ◌∙◌, arith}
use Rattle.expr.specs.Bound.{BoundArms, BoundOtherwise}
use Rattle.expr.specs.declared.bound.BoundExpr.{BoundExpr}
use Rattle.expr.specs.View.{bound_expr_of, otherwise_of}
use Rattle.expr.specs.Weights.{weight, arms_weight, otherwise_weight}

abbrev pub case_measure : BoundArms → BoundOtherwise → ℕ
case_measure as_ o = suc ((arms_weight as_ + otherwise_weight o) + (arms_weight as_ + otherwise_weight o))

pub doubled : (x w t : ℕ) → w + w ≡ t → x < w → x + x < t
doubled x w t h l = omega (arith, h, l)

module _ (as_ : BoundArms) (o : BoundOtherwise) (t : ℕ) where
  -- a CASE's parts
  pub case_below : (w : ℕ) → w + w ≡ t → w ≡ suc (arms_weight as_ + otherwise_weight o) → case_measure as_ o < t
  case_below w h e = omega (arith, h, e)

  -- an expression in an arm
  pub arm_below : (x : ℕ) → case_measure as_ o ≡ t → x < arms_weight as_ → x + x < t
  arm_below x h l = omega (arith, h, l)

  -- ELSE
  pub else_below : (x : ℕ) → case_measure as_ o ≡ t → otherwise_weight o ≡ x → x + x < t
  else_below x h e = omega (arith, h, e)

pub else_weight : {A : Type 0} (o : Option (Box (BoundExpr A) A)) (b : Box (BoundExpr A) A) → o ≡ Some b → (x : BoundExpr A) → x ≡ b.value → otherwise_weight (otherwise_of o) ≡ weight (bound_expr_of x)
else_weight o b s x q = ap (λ p. otherwise_weight (otherwise_of p)) s ∙ ap (λ y. weight (bound_expr_of y)) (sym q)
