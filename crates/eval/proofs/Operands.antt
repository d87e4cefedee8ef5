-- The meaning of a node with operands.
use Rattle.std.proofs.Common.{◌≡◌, ◌⊎◌, inl, inr, ℕ, ◌&&◌, Bool, true, List, map, Result, Ok, Box, ap, ◌∙◌}
use Rattle.memory.specs.declared.failure.Failure.{Failure}
use Rattle.memory.specs.declared.failure.Failure.TheVariants as failure
use Rattle.memory.specs.Gives.{IsFailure, Gives}
use Rattle.value.specs.Datum.{Datum, datum, datum_of}
use Rattle.value.specs.declared.types.Val.{Val}
use Rattle.value.specs.declared.types.Value.{Value}
use Rattle.value.specs.declared.faults.Fault.{Fault}
use Rattle.value.specs.declared.operators.Aggregate.{Aggregate}
use Rattle.value.specs.declared.operators.Arithmetic as operators
use Rattle.value.specs.declared.operators.Comparison as operators'
use Rattle.expr.specs.View.{bound_expr_of}
use Rattle.expr.specs.declared.bound.BoundExpr.{BoundExpr, In, Arithmetic, Comparison, Between, CountStar, Call}
use Rattle.expr.proofs.Operands.{in_is, arithmetic_is, comparison_is, between_is}
use Rattle.eval.specs.Meaning.{Cells, meaning, membership, arithmetic, comparison, between}
use Rattle.eval.specs.Memory.{takes_no_memory}
use Rattle.eval.proofs.Movables.{and_left, and_right}

-- ---- an aggregate

pub aggregate_is : {A : Type 0} (cells : Cells) (role : List ℕ) (e : BoundExpr A) (offset : ℕ) → (e ≡ CountStar offset) ⊎ ((f : Aggregate) × (b : Box (BoundExpr A) A) × e ≡ Call f offset b) → meaning cells role (bound_expr_of e) ≡ Ok (cells.aggregate offset)
aggregate_is cells role e offset (inl is) = ap (λ y. meaning cells role (bound_expr_of y)) is
aggregate_is cells role e offset (inr (f, b, is)) = ap (λ y. meaning cells role (bound_expr_of y)) is

-- ---- an operand among values

module _ {A : Type 0} (cells : Cells) (role : List ℕ) (e : BoundExpr A) (negated : Bool) (offset : ℕ) (vs : List (Value A)) (b : Box (BoundExpr A) A) (is : e ≡ In negated offset vs b) (x : BoundExpr A) (q : x ≡ b.value) where
  pub member_of : (ws : List (Value A)) → ws ≡ vs → (r : Result (Val A) (Failure Fault)) → Gives datum_of r (membership negated (meaning cells role (bound_expr_of x)) (map datum ws)) → Gives datum_of r (meaning cells role (bound_expr_of e))
  member_of ws w r h = rw (in_is e negated offset vs b is x q) (rw w at h)

-- ---- two operands

module _ {A : Type 0} (e : BoundExpr A) (offset : ℕ) (a b : Box (BoundExpr A) A) (x : BoundExpr A) (q : x ≡ a.value) (y : BoundExpr A) (r : y ≡ b.value) where
  module _ (cells : Cells) (role : List ℕ) where
    pub arithmetic_known : (o : operators.Arithmetic) → e ≡ Arithmetic o offset a b → (d : Datum) → meaning cells role (bound_expr_of x) ≡ Ok d
        → meaning cells role (bound_expr_of e) ≡ arithmetic o offset (Ok d) (meaning cells role (bound_expr_of y))
    arithmetic_known o is d h = ap (meaning cells role) (arithmetic_is e offset a b x q y r o is) ∙ ap (λ m. arithmetic o offset m (meaning cells role (bound_expr_of y))) h

    pub comparison_known : (o : operators'.Comparison) → e ≡ Comparison o offset a b → (d : Datum) → meaning cells role (bound_expr_of x) ≡ Ok d
        → meaning cells role (bound_expr_of e) ≡ comparison o (Ok d) (meaning cells role (bound_expr_of y))
    comparison_known o is d h = ap (meaning cells role) (comparison_is e offset a b x q y r o is) ∙ ap (λ m. comparison o m (meaning cells role (bound_expr_of y))) h

    pub arithmetic_fails : (o : operators.Arithmetic) → e ≡ Arithmetic o offset a b → (f : Failure Fault) → IsFailure f (meaning cells role (bound_expr_of x)) → IsFailure f (meaning cells role (bound_expr_of e))
    arithmetic_fails o is (failure.Error f) h = ap (meaning cells role) (arithmetic_is e offset a b x q y r o is) ∙ ap (λ m. arithmetic o offset m (meaning cells role (bound_expr_of y))) h
    arithmetic_fails o is failure.OutOfMemory h = tt

    pub comparison_fails : (o : operators'.Comparison) → e ≡ Comparison o offset a b → (f : Failure Fault) → IsFailure f (meaning cells role (bound_expr_of x)) → IsFailure f (meaning cells role (bound_expr_of e))
    comparison_fails o is (failure.Error f) h = ap (meaning cells role) (comparison_is e offset a b x q y r o is) ∙ ap (λ m. comparison o m (meaning cells role (bound_expr_of y))) h
    comparison_fails o is failure.OutOfMemory h = tt

-- ---- three operands

module _ {A : Type 0} (e : BoundExpr A) (negated : Bool) (offset : ℕ) (a b c : Box (BoundExpr A) A) (is : e ≡ Between negated offset a b c) (x : BoundExpr A) (q : x ≡ a.value) (y : BoundExpr A) (r : y ≡ b.value) (z : BoundExpr A) (s : z ≡ c.value) where
  module _ (cells : Cells) (role : List ℕ) where
    pub between_fails : (f : Failure Fault) → IsFailure f (meaning cells role (bound_expr_of x)) → IsFailure f (meaning cells role (bound_expr_of e))
    between_fails (failure.Error f) h = ap (meaning cells role) (between_is e negated offset a b c is x q y r z s) ∙ ap (λ m. between negated m (meaning cells role (bound_expr_of y)) (meaning cells role (bound_expr_of z))) h
    between_fails failure.OutOfMemory h = tt

    module _ (d : Datum) (known : meaning cells role (bound_expr_of x) ≡ Ok d) where
      between_on : meaning cells role (bound_expr_of e) ≡ between negated (Ok d) (meaning cells role (bound_expr_of y)) (meaning cells role (bound_expr_of z))
      between_on = ap (meaning cells role) (between_is e negated offset a b c is x q y r z s) ∙ ap (λ m. between negated m (meaning cells role (bound_expr_of y)) (meaning cells role (bound_expr_of z))) known

      pub between_low_fails : (f : Failure Fault) → IsFailure f (meaning cells role (bound_expr_of y)) → IsFailure f (meaning cells role (bound_expr_of e))
      between_low_fails (failure.Error f) h = between_on ∙ ap (λ m. between negated (Ok d) m (meaning cells role (bound_expr_of z))) h
      between_low_fails failure.OutOfMemory h = tt

      pub between_known : (l : Datum) → meaning cells role (bound_expr_of y) ≡ Ok l → meaning cells role (bound_expr_of e) ≡ between negated (Ok d) (Ok l) (meaning cells role (bound_expr_of z))
      between_known l h = between_on ∙ ap (λ m. between negated (Ok d) m (meaning cells role (bound_expr_of z))) h

  module _ (h : takes_no_memory (bound_expr_of e) ≡ true) where
    pub operand_takes_none : takes_no_memory (bound_expr_of x) ≡ true
    operand_takes_none = and_left (takes_no_memory (bound_expr_of x)) (takes_no_memory (bound_expr_of y) && takes_no_memory (bound_expr_of z)) (rw (between_is e negated offset a b c is x q y r z s) at h)

    bounds_take_none : takes_no_memory (bound_expr_of y) && takes_no_memory (bound_expr_of z) ≡ true
    bounds_take_none = and_right (takes_no_memory (bound_expr_of x)) (takes_no_memory (bound_expr_of y) && takes_no_memory (bound_expr_of z)) (rw (between_is e negated offset a b c is x q y r z s) at h)

    pub low_takes_none : takes_no_memory (bound_expr_of y) ≡ true
    low_takes_none = and_left (takes_no_memory (bound_expr_of y)) (takes_no_memory (bound_expr_of z)) bounds_take_none

    pub high_takes_none : takes_no_memory (bound_expr_of z) ≡ true
    high_takes_none = and_right (takes_no_memory (bound_expr_of y)) (takes_no_memory (bound_expr_of z)) bounds_take_none
