-- The steps from the conditions that are known to all of them.
use Rattle.std.proofs.Common.{◌≡◌, ◌≢◌, ℕ, ◌<◌, ◌≤◌, ◌+◌, List, length, get_or, drop, Option, Some, None, Result, Ok, Err, IsOk, Vec, Box, true, refl, sym, ap, ◌∙◌, rules, arith}
use Rattle.std.proofs.lemmas.Grind.{common_steps}
use denote.Enum.Bare.{sameb, same_true}
use Rattle.memory.specs.declared.failure.Failure.{Failure}
use Rattle.memory.specs.declared.failure.Failure.TheVariants as failure
use Rattle.memory.specs.Gives.{IsFailure}
use Rattle.value.specs.declared.order.Truth.{Truth}
use Rattle.value.specs.declared.order.Truth.TheVariants.{False, Unknown, True}
use Rattle.value.specs.contracts.order.Truth.{the_type}
use Rattle.value.specs.declared.faults.Fault.{Fault}
use Rattle.value.specs.Truths.{least, greatest}
use Rattle.value.specs.Datum.{null}
use Rattle.expr.specs.declared.bound.BoundExpr.{BoundExpr, Case}
use Rattle.expr.specs.declared.bound.BoundArm.{BoundArm}
use Rattle.expr.specs.View.{bound_expr_of, bound_exprs, bound_arms, otherwise_of}
use Rattle.expr.proofs.Walks.{case_is, exprs_step, arms_step}
use Rattle.eval.specs.Meaning.{Cells, Outcome, meaning, condition, conjunction, disjunction, chosen, otherwise, with_least, with_greatest, unless_false, unless_true, when_true}

-- ---- two truths that compare as equal

pub same : (a b : Truth) → sameb the_type a b ≡ true → a ≡ b
same a b h = same_true the_type (search rules) a b h

-- ---- AND and OR

pub and_open : True ≢ False
and_open q = cc (q)

pub or_open : False ≢ True
or_open q = cc (q)

pub and_start : (r : Result Truth Fault) → with_least True r ≡ r
and_start (Ok False) = refl
and_start (Ok Unknown) = refl
and_start (Ok True) = refl
and_start (Err f) = refl

pub or_start : (r : Result Truth Fault) → with_greatest False r ≡ r
or_start (Ok False) = refl
or_start (Ok Unknown) = refl
or_start (Ok True) = refl
or_start (Err f) = refl

module _ (cells : Cells) (role : List ℕ) {A : Type 0} (es : List (BoundExpr A)) (k : ℕ) (known : Truth) where
  module _ (so_far : with_least known (conjunction cells role (bound_exprs (drop k es))) ≡ conjunction cells role (bound_exprs es)) where
    pub and_over : length es ≤ k → conjunction cells role (bound_exprs es) ≡ Ok known
    and_over l = grind (arith, common_steps)

    module _ (e : BoundExpr A) (more : k < length es) (is : e ≡ get_or es k e) where
      pub and_fails : (f : Failure Fault) → IsFailure f (condition (meaning cells role (bound_expr_of e))) → IsFailure f (conjunction cells role (bound_exprs es))
      and_fails (failure.Error f) h = sym so_far ∙ ap (λ x. with_least known (conjunction cells role x)) (exprs_step es k e more is) ∙ ap (λ x. with_least known (unless_false x (conjunction cells role (bound_exprs (drop (k + 1) es))))) h
      and_fails failure.OutOfMemory h = tt

      pub and_ends : (t new : Truth) → condition (meaning cells role (bound_expr_of e)) ≡ Ok t → new ≡ least known t → known ≢ False → new ≡ False → conjunction cells role (bound_exprs es) ≡ Ok False
      and_ends t new h n o s = grind (arith, common_steps)

      pub and_goes_on : (t new : Truth) → condition (meaning cells role (bound_expr_of e)) ≡ Ok t → new ≡ least known t → new ≢ False → with_least new (conjunction cells role (bound_exprs (drop (k + 1) es))) ≡ conjunction cells role (bound_exprs es)
      and_goes_on t new h n o = grind (arith, common_steps)

  module _ (so_far : with_greatest known (disjunction cells role (bound_exprs (drop k es))) ≡ disjunction cells role (bound_exprs es)) where
    pub or_over : length es ≤ k → disjunction cells role (bound_exprs es) ≡ Ok known
    or_over l = grind (arith, common_steps)

    module _ (e : BoundExpr A) (more : k < length es) (is : e ≡ get_or es k e) where
      pub or_fails : (f : Failure Fault) → IsFailure f (condition (meaning cells role (bound_expr_of e))) → IsFailure f (disjunction cells role (bound_exprs es))
      or_fails (failure.Error f) h = sym so_far ∙ ap (λ x. with_greatest known (disjunction cells role x)) (exprs_step es k e more is) ∙ ap (λ x. with_greatest known (unless_true x (disjunction cells role (bound_exprs (drop (k + 1) es))))) h
      or_fails failure.OutOfMemory h = tt

      pub or_ends : (t new : Truth) → condition (meaning cells role (bound_expr_of e)) ≡ Ok t → new ≡ greatest known t → known ≢ True → new ≡ True → disjunction cells role (bound_exprs es) ≡ Ok True
      or_ends t new h n o s = grind (arith, common_steps)

      pub or_goes_on : (t new : Truth) → condition (meaning cells role (bound_expr_of e)) ≡ Ok t → new ≡ greatest known t → new ≢ True → with_greatest new (disjunction cells role (bound_exprs (drop (k + 1) es))) ≡ disjunction cells role (bound_exprs es)
      or_goes_on t new h n o = grind (arith, common_steps)

-- ---- the arms of CASE

module _ (cells : Cells) (role : List ℕ) {A : Type 0} (as_ : List (BoundArm A)) (k : ℕ) (rest : Outcome) (so_far : chosen cells role (bound_arms (drop k as_)) rest ≡ chosen cells role (bound_arms as_) rest) where
  pub case_over : length as_ ≤ k → chosen cells role (bound_arms as_) rest ≡ rest
  case_over l = grind (arith, common_steps)

  module _ (a : BoundArm A) (more : k < length as_) (is : a ≡ get_or as_ k a) where
    case_at : chosen cells role (bound_arms as_) rest ≡ when_true (condition (meaning cells role (bound_expr_of a.when))) (meaning cells role (bound_expr_of a.result)) (chosen cells role (bound_arms (drop (k + 1) as_)) rest)
    case_at = sym so_far ∙ ap (λ x. chosen cells role x rest) (arms_step as_ k a more is)

    pub when_fails : (f : Failure Fault) → IsFailure f (condition (meaning cells role (bound_expr_of a.when))) → IsFailure f (chosen cells role (bound_arms as_) rest)
    when_fails (failure.Error f) h = case_at ∙ ap (λ x. when_true x (meaning cells role (bound_expr_of a.result)) (chosen cells role (bound_arms (drop (k + 1) as_)) rest)) h
    when_fails failure.OutOfMemory h = tt

    pub case_gives : (t : Truth) → condition (meaning cells role (bound_expr_of a.when)) ≡ Ok t → t ≡ True → chosen cells role (bound_arms as_) rest ≡ meaning cells role (bound_expr_of a.result)
    case_gives t h s = let e = case_at in grind (arith, common_steps)

    pub case_goes_on : (t : Truth) → condition (meaning cells role (bound_expr_of a.when)) ≡ Ok t → t ≢ True → chosen cells role (bound_arms (drop (k + 1) as_)) rest ≡ chosen cells role (bound_arms as_) rest
    case_goes_on t h n = let e = case_at in grind (arith, common_steps)

-- ---- CASE

module _ (cells : Cells) (role : List ℕ) {A : Type 0} (e : BoundExpr A) (offset : ℕ) (v : Vec (BoundArm A) A) (as_ : List (BoundArm A)) (d : as_ ≡ v.items) (o : Option (Box (BoundExpr A) A)) (is : e ≡ Case offset v o) where
  pub by_arms : meaning cells role (bound_expr_of e) ≡ chosen cells role (bound_arms as_) (otherwise cells role (otherwise_of o))
  by_arms = ap (meaning cells role) (case_is e offset v as_ d o is)

module _ (cells : Cells) (role : List ℕ) {A : Type 0} (o : Option (Box (BoundExpr A) A)) where
  pub else_value : (b : Box (BoundExpr A) A) → o ≡ Some b → (x : BoundExpr A) → x ≡ b.value → otherwise cells role (otherwise_of o) ≡ meaning cells role (bound_expr_of x)
  else_value b s x q = ap (λ p. otherwise cells role (otherwise_of p)) s ∙ ap (λ y. meaning cells role (bound_expr_of y)) (sym q)

  pub else_null : o ≡ None → otherwise cells role (otherwise_of o) ≡ Ok null
  else_null n = ap (λ p. otherwise cells role (otherwise_of p)) n

-- ---- the result of `?`

pub never_fails : (f : Failure Fault) (m : Outcome) → IsFailure f m → IsOk m → f ≢ failure.OutOfMemory → ⊥
never_fails (failure.Error x) m h ok n = absurd (cc)
never_fails failure.OutOfMemory m h ok n = n refl
