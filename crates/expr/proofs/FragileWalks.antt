-- The steps of the search for what may fault over members and arms.
use Rattle.std.proofs.Common.{◌≡◌, ℕ, ◌+◌, ◌<◌, ◌≤◌, List, length, get_or, drop, Option, sym, ap, ◌∙◌}
use Rattle.expr.specs.Bound as bound
use Rattle.expr.specs.View.{bound_arms, bound_expr_of, bound_exprs}
use Rattle.expr.specs.declared.bound.BoundExpr.{BoundExpr}
use Rattle.expr.specs.declared.bound.BoundArm.{BoundArm}
use Rattle.expr.specs.Offsets.{least_of}
use Rattle.expr.specs.Fragile.{first_fragile, fragile_members, fragile_arms}
use Rattle.expr.proofs.Leasts.{least_of_assoc, least_of_none}
use Rattle.expr.proofs.Walks.{exprs_step, exprs_over, arms_step, arms_over}

-- the least of two offsets that are known
pub least_is : (a b a' b' r : Option ℕ) → r ≡ least_of a b → a ≡ a' → b ≡ b' → r ≡ least_of a' b'
least_is a b a' b' r e p q = e ∙ ap (λ x. least_of x b) p ∙ ap (least_of a') q

-- what may fault in an expression, through an equal one
pub fragile_as : (e f : bound.BoundExpr) (r : Option ℕ) → e ≡ f → r ≡ first_fragile f → r ≡ first_fragile e
fragile_as e f r is h = h ∙ sym (ap first_fragile is)

module _ {A : Type 0} where
  abbrev in_members : List (BoundExpr A) → Option ℕ
  in_members es = fragile_members (bound_exprs es)

  abbrev in_arms : List (BoundArm A) → Option ℕ
  in_arms as_ = fragile_arms (bound_arms as_)

  pub fragile_step : (es : List (BoundExpr A)) (k : ℕ) (e : BoundExpr A) (more : k < length es) (is : e ≡ get_or es k e) (known new t whole : Option ℕ)
      → least_of known (fragile_members (bound_exprs (drop k es))) ≡ whole → t ≡ first_fragile (bound_expr_of e) → new ≡ least_of known t
      → least_of new (fragile_members (bound_exprs (drop (k + 1) es))) ≡ whole
  fragile_step es k e more is known new t whole so_far p q =
      rw (q, p)
      (least_of_assoc known (first_fragile (bound_expr_of e)) (in_members (drop (k + 1) es)) ∙ ap (λ xs. least_of known (fragile_members xs)) (sym (exprs_step es k e more is)) ∙ so_far)

  pub fragile_over : (es : List (BoundExpr A)) (k : ℕ) (known whole : Option ℕ) → least_of known (fragile_members (bound_exprs (drop k es))) ≡ whole → length es ≤ k → known ≡ whole
  fragile_over es k known whole so_far l = sym (least_of_none known) ∙ ap (λ xs. least_of known (fragile_members xs)) (sym (exprs_over es k l)) ∙ so_far

  pub fragile_arm_step : (as_ : List (BoundArm A)) (k : ℕ) (a : BoundArm A) (more : k < length as_) (is : a ≡ get_or as_ k a) (known new inner t u whole : Option ℕ)
      → least_of known (fragile_arms (bound_arms (drop k as_))) ≡ whole → t ≡ first_fragile (bound_expr_of a.when) → u ≡ first_fragile (bound_expr_of a.result)
      → inner ≡ least_of t u → new ≡ least_of known inner → least_of new (fragile_arms (bound_arms (drop (k + 1) as_))) ≡ whole
  fragile_arm_step as_ k a more is known new inner t u whole so_far p q i r =
      rw (r, i, p, q)
      (least_of_assoc known (least_of (first_fragile (bound_expr_of a.when)) (first_fragile (bound_expr_of a.result))) (in_arms (drop (k + 1) as_))
      ∙ ap (λ xs. least_of known (fragile_arms xs)) (sym (arms_step as_ k a more is)) ∙ so_far)

  pub fragile_arms_over : (as_ : List (BoundArm A)) (k : ℕ) (known whole : Option ℕ) → least_of known (fragile_arms (bound_arms (drop k as_))) ≡ whole → length as_ ≤ k → known ≡ whole
  fragile_arms_over as_ k known whole so_far l = sym (least_of_none known) ∙ ap (λ xs. least_of known (fragile_arms xs)) (sym (arms_over as_ k l)) ∙ so_far
