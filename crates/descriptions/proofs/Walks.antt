-- The steps of a walk over the arms of a CASE.
use Rattle.std.proofs.Common.{◌≡◌, ℕ, ◌+◌, ◌<◌, ◌≤◌, List, length, get_or, drop, Some, None, refl, sym, ap, ◌∙◌}
use Rattle.expr.specs.Bound.{BoundArms, BoundExpr, Case, Nothing, Value}
use Rattle.expr.specs.View.{bound_arms, bound_expr_of}
use Rattle.expr.specs.declared.bound.BoundArm.{BoundArm}
use Rattle.expr.specs.declared.bound.BoundExpr as declared
use Rattle.expr.proofs.Walks.{arms_over, arms_step}
use Rattle.scope.specs.Entry.{Entry}
use Rattle.typing.specs.Typing.{TypeOf}
use Rattle.descriptions.specs.Types.{arms_type, bound_type, first_type}

pub or_none : (a : TypeOf) → first_type a None ≡ a
or_none None = refl
or_none (Some t) = refl

first_of_three : (a b c : TypeOf) → first_type (first_type a b) c ≡ first_type a (first_type b c)
first_of_three None b c = refl
first_of_three (Some t) b c = refl

module _ {A : Type 0} (entries : List Entry) (as_ : List (BoundArm A)) (k : ℕ) (known whole : TypeOf) (rest : first_type known (arms_type entries (bound_arms (drop k as_))) ≡ whole) where
  pub arm_step : (a : BoundArm A) → k < length as_ → a ≡ get_or as_ k a → (t new : TypeOf) → t ≡ bound_type entries (bound_expr_of a.result) → new ≡ first_type known t → first_type new (arms_type entries (bound_arms (drop (k + 1) as_))) ≡ whole
  arm_step a more is t new e n =
      let others = arms_type entries (bound_arms (drop (k + 1) as_)) in
      rw (n, e) (first_of_three known (bound_type entries (bound_expr_of a.result)) others ∙ ap (λ as_. first_type known (arms_type entries as_)) (sym (arms_step as_ k a more is)) ∙ rest)

  pub arms_end : length as_ ≤ k → known ≡ whole
  arms_end l = sym (or_none known) ∙ ap (λ as_. first_type known (arms_type entries as_)) (sym (arms_over as_ k l)) ∙ rest

-- ---- a CASE

module _ (entries : List Entry) (e : BoundExpr) (offset : ℕ) (as_ : BoundArms) (known new : TypeOf) (k : known ≡ arms_type entries as_) where
  pub described_none : e ≡ Case offset as_ Nothing → new ≡ first_type known None → new ≡ bound_type entries e
  described_none is n = rw (n, k) (sym (ap (bound_type entries) is))

  pub described_some : {A : Type 0} (x y : declared.BoundExpr A) → x ≡ y → e ≡ Case offset as_ (Value (bound_expr_of y)) → (last : TypeOf) → last ≡ bound_type entries (bound_expr_of x) → new ≡ first_type known last → new ≡ bound_type entries e
  described_some x y q is last l n = rw (n, k, l, q) (sym (ap (bound_type entries) is))
