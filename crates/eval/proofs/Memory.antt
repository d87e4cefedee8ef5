-- The parts of an expression that takes no memory take none.
use Rattle.std.proofs.Common.{◌≡◌, ◌≢◌, ℕ, ◌+◌, ◌<◌, true, ◌&&◌, List, length, get_or, drop, Option, Some, Result, Ok, Err, IsErrAnd, Vec, Box, sym, ap, ◌∙◌}
use Rattle.memory.specs.declared.failure.Failure.{Failure}
use Rattle.memory.specs.declared.failure.Failure.TheVariants.{OutOfMemory}
use Rattle.value.specs.declared.faults.Fault.{Fault}
use Rattle.value.specs.declared.types.ColType.{ColType}
use Rattle.value.specs.declared.types.ColType.TheVariants as coltype
use Rattle.expr.specs.declared.bound.BoundExpr.{BoundExpr, Case}
use Rattle.expr.specs.declared.bound.BoundArm.{BoundArm}
use Rattle.expr.specs.View.{bound_expr_of, bound_exprs, bound_arms, otherwise_of}
use Rattle.expr.proofs.Walks.{case_is, exprs_step, arms_step}
use Rattle.eval.specs.Memory.{is_no_text, takes_no_memory, all_take_no_memory, arms_take_no_memory, otherwise_takes_no_memory}
use Rattle.eval.proofs.Movables.{and_left, and_right}

module _ {A : Type 0} (es : List (BoundExpr A)) (k : ℕ) (e : BoundExpr A) (more : k < length es) (is : e ≡ get_or es k e) (h : all_take_no_memory (bound_exprs (drop k es)) ≡ true) where
  pub member_takes_none : takes_no_memory (bound_expr_of e) ≡ true
  member_takes_none = and_left (takes_no_memory (bound_expr_of e)) (all_take_no_memory (bound_exprs (drop (k + 1) es))) (rw (exprs_step es k e more is) at h)

  pub rest_takes_none : all_take_no_memory (bound_exprs (drop (k + 1) es)) ≡ true
  rest_takes_none = and_right (takes_no_memory (bound_expr_of e)) (all_take_no_memory (bound_exprs (drop (k + 1) es))) (rw (exprs_step es k e more is) at h)

module _ {A : Type 0} (as_ : List (BoundArm A)) (k : ℕ) (a : BoundArm A) (more : k < length as_) (is : a ≡ get_or as_ k a) (h : arms_take_no_memory (bound_arms (drop k as_)) ≡ true) where
  both_take_none : takes_no_memory (bound_expr_of a.when) && takes_no_memory (bound_expr_of a.result) ≡ true
  both_take_none = and_left (takes_no_memory (bound_expr_of a.when) && takes_no_memory (bound_expr_of a.result)) (arms_take_no_memory (bound_arms (drop (k + 1) as_))) (rw (arms_step as_ k a more is) at h)

  pub when_takes_none : takes_no_memory (bound_expr_of a.when) ≡ true
  when_takes_none = and_left (takes_no_memory (bound_expr_of a.when)) (takes_no_memory (bound_expr_of a.result)) both_take_none

  pub result_takes_none : takes_no_memory (bound_expr_of a.result) ≡ true
  result_takes_none = and_right (takes_no_memory (bound_expr_of a.when)) (takes_no_memory (bound_expr_of a.result)) both_take_none

  pub arms_left_take_none : arms_take_no_memory (bound_arms (drop (k + 1) as_)) ≡ true
  arms_left_take_none = and_right (takes_no_memory (bound_expr_of a.when) && takes_no_memory (bound_expr_of a.result)) (arms_take_no_memory (bound_arms (drop (k + 1) as_))) (rw (arms_step as_ k a more is) at h)

module _ {A : Type 0} (e : BoundExpr A) (offset : ℕ) (v : Vec (BoundArm A) A) (as_ : List (BoundArm A)) (d : as_ ≡ v.items) (o : Option (Box (BoundExpr A) A)) (is : e ≡ Case offset v o) (h : takes_no_memory (bound_expr_of e) ≡ true) where
  pub arms_take_none : arms_take_no_memory (bound_arms as_) ≡ true
  arms_take_none = and_left (arms_take_no_memory (bound_arms as_)) (otherwise_takes_no_memory (otherwise_of o)) (rw (case_is e offset v as_ d o is) at h)

  pub otherwise_takes_none : otherwise_takes_no_memory (otherwise_of o) ≡ true
  otherwise_takes_none = and_right (arms_take_no_memory (bound_arms as_)) (otherwise_takes_no_memory (otherwise_of o)) (rw (case_is e offset v as_ d o is) at h)

pub else_takes_none : {A : Type 0} (o : Option (Box (BoundExpr A) A)) → otherwise_takes_no_memory (otherwise_of o) ≡ true → (b : Box (BoundExpr A) A) → o ≡ Some b → (x : BoundExpr A) → x ≡ b.value → takes_no_memory (bound_expr_of x) ≡ true
else_takes_none o h b s x q = ap (λ y. takes_no_memory (bound_expr_of y)) q ∙ sym (ap (λ p. otherwise_takes_no_memory (otherwise_of p)) s) ∙ h

pub no_text : (to : ColType) → is_no_text to ≡ true → to ≢ coltype.Text
no_text coltype.Bigint h = λ q. cc (q)
no_text coltype.Text h = cc
no_text coltype.Boolean h = λ q. cc (q)

-- what `?` returns
pub exits_safe : {X Y : Type 0} (r : Result Y (Failure Fault)) (f : Failure Fault) → IsErrAnd r (λ e. e ≡ f) → ◌≢◌ {A = Result X (Failure Fault)} (Err f) (Err OutOfMemory) → r ≢ Err OutOfMemory
exits_safe (Ok x) f is n = absurd is
exits_safe {X} (Err e) f is n = λ q. n (cc)

pub ok_safe : {X : Type 0} (x : X) → ◌≢◌ {A = Result X (Failure Fault)} (Ok x) (Err OutOfMemory)
ok_safe x = λ q. cc (q)
