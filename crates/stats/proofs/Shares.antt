-- Shares of a million, and the factors of members.
use Rattle.std.proofs.Common.{◌≡◌, ℕ, ◌+◌, ◌-◌, ◌*◌, ◌/◌, ◌<◌, ◌≤◌, List, length, drop, get_or, sym, ap, ◌∙◌, arith}
use Rattle.std.proofs.Math.Nat.{div-le_of_le-mul, le_refl, mul-add}
use Rattle.std.proofs.lemmas.Nat.{le-div, mul-le}
use Rattle.expr.specs.View.{bound_expr_of, bound_exprs}
use Rattle.expr.specs.declared.bound.BoundExpr.{BoundExpr}
use Rattle.expr.proofs.Walks.{exprs_over, exprs_step}
use Rattle.stats.specs.Statistics.{Stats}
use Rattle.stats.specs.Factors.{million, factor, all_factor, any_factor}

-- ---- shares

-- a share is no more than the whole
pub part_within : (v f : ℕ) → f ≤ million → v * f / million ≤ v
part_within v f l = div-le_of_le-mul million (omega (arith, mul-le v f v million (le_refl v) l))

module _ (f g : ℕ) (fl : f ≤ million) (gl : g ≤ million) where
  -- the parts of two factors can be multiplied
  pub product_within : f * g ≤ million * million
  product_within = mul-le f g million million fl gl

  -- the rest of one factor, times the rest of the other, is no less than 0
  above_within : (f + g - million) * million ≤ f * g
  above_within =
      let rest = million - g in
      let r : f * rest ≤ million * rest = mul-le f rest million rest fl (le_refl rest) in
      let whole : f * g + f * rest ≡ f * million = sym (mul-add f g rest) ∙ ap (λ n. f * n) (omega arith) in
      omega (arith, r, whole)

  -- one condition or another passes no more than a million
  pub either_within : f + g - f * g / million ≤ million
  either_within = omega (arith, le-div (f + g - million) (f * g) million (omega arith) above_within)

-- ---- members, after those so far

module _ {A : Type 0} (of : List Stats) (es : List (BoundExpr A)) (k so_far : ℕ) where
  pub all_over : length es ≤ k → all_factor of so_far (bound_exprs (drop k es)) ≡ so_far
  all_over l = ap (all_factor of so_far) (exprs_over es k l)

  pub any_over : length es ≤ k → any_factor of so_far (bound_exprs (drop k es)) ≡ so_far
  any_over l = ap (any_factor of so_far) (exprs_over es k l)

  module _ (e : BoundExpr A) (more : k < length es) (is : e ≡ get_or es k e) (one new : ℕ) (o : one ≡ factor of (bound_expr_of e)) where
    pub all_step : new ≡ so_far * one / million → all_factor of new (bound_exprs (drop (k + 1) es)) ≡ all_factor of so_far (bound_exprs (drop k es))
    all_step n = ap (λ m. all_factor of m (bound_exprs (drop (k + 1) es))) (n ∙ ap (λ f. so_far * f / million) o) ∙ sym (ap (all_factor of so_far) (exprs_step es k e more is))

    pub any_step : new ≡ so_far + one - so_far * one / million → any_factor of new (bound_exprs (drop (k + 1) es)) ≡ any_factor of so_far (bound_exprs (drop k es))
    any_step n = ap (λ m. any_factor of m (bound_exprs (drop (k + 1) es))) (n ∙ ap (λ f. so_far + f - so_far * f / million) o) ∙ sym (ap (any_factor of so_far) (exprs_step es k e more is))
