-- What holds of expressions that are bound, one after another.
use Rattle.std.proofs.Common.{Result, Ok, Err, IfOk}
use Rattle.memory.specs.Results.{and_then}
use Rattle.expr.specs.Bound.{BoundExpr}
use Rattle.scope.specs.declared.error.BindError.{BindError}

module _ {X : Type 0} (S : X → Type 0) (P : BoundExpr → Type 0) where
  pub one : (r : Result BoundExpr BindError) (f : BoundExpr → X) → IfOk r P → ((x : BoundExpr) → P x → S (f x)) → IfOk (and_then r (λ x. Ok (f x))) S
  one (Ok x) f h next = next x h
  one (Err fault) f h next = tt

  module _ (Q : BoundExpr → Type 0) where
    pub two : (r s : Result BoundExpr BindError) (f : BoundExpr → BoundExpr → X) → IfOk r P → IfOk s Q → ((x y : BoundExpr) → P x → Q y → S (f x y)) → IfOk (and_then r (λ x. and_then s (λ y. Ok (f x y)))) S
    two (Ok x) (Ok y) f h k next = next x y h k
    two (Ok x) (Err fault) f h k next = tt
    two (Err fault) s f h k next = tt

    module _ (R : BoundExpr → Type 0) where
      pub three : (r s t : Result BoundExpr BindError) (f : BoundExpr → BoundExpr → BoundExpr → X) → IfOk r P → IfOk s Q → IfOk t R → ((x y z : BoundExpr) → P x → Q y → R z → S (f x y z))
          → IfOk (and_then r (λ x. and_then s (λ y. and_then t (λ z. Ok (f x y z))))) S
      three (Ok x) (Ok y) (Ok z) f h k m next = next x y z h k m
      three (Ok x) (Ok y) (Err fault) f h k m next = tt
      three (Ok x) (Err fault) t f h k m next = tt
      three (Err fault) s t f h k m next = tt
