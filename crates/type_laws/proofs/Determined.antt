-- An expression has one type at most.
use Rattle.std.proofs.Common.{◌≡◌, ◌⊎◌, inl, inr, List, sym, ◌∙◌}
use Rattle.value.specs.declared.operators.Aggregate.{Aggregate}
use Rattle.value.specs.declared.operators.Aggregate.TheVariants.{Count, Sum, Min, Max}
use Rattle.expr.specs.Bound.{BoundExpr, Column, Literal, CurrentUser, Negate, Arithmetic, Comparison, Between, In, IsNull, Not, And, Or, Cast, Case, CountStar, Call, BoundArms, no_arm, one_arm, BoundOtherwise, Nothing, Value}
use Rattle.scope.specs.Entry.{Entry}
use Rattle.typing.specs.Typing.{TypeOf}
use Rattle.type_laws.specs.Rules.{IsFitting, IsOfFitting, IsAggregateType, IsOfType, ArmsFit, IsArmType, IsElseType}
use Rattle.type_laws.proofs.Fitting.{fits_both, fits_same}

aggregate_determined : (f : Aggregate) (x y a b : TypeOf) → x ≡ y → IsAggregateType f x a → IsAggregateType f y b → a ≡ b
aggregate_determined Count x y a b e h k = h ∙ sym k
aggregate_determined Sum x y a b e h k = h.1 ∙ sym k.1
aggregate_determined Min x y a b e h k = h.1 ∙ (e ∙ sym k.1)
aggregate_determined Max x y a b e h k = h.1 ∙ (e ∙ sym k.1)

either : {A B C : Type 0} → A ⊎ B → (A → C) → (B → C) → C
either (inl a) f g = f a
either (inr b) f g = g b

module _ (entries : List Entry) where
  mutual
    pub determined : (x : BoundExpr) (a b : TypeOf) → IsOfType entries x a → IsOfType entries x b → a ≡ b
    determined (Column id) a b h k = h ∙ sym k
    determined (Literal d) a b h k = h ∙ sym k
    determined CurrentUser a b h k = h ∙ sym k
    determined (Negate offset e) a b h k = h.1 ∙ sym k.1
    determined (Arithmetic op offset e f) a b h k = h.2 ∙ sym k.2
    determined (Comparison op offset e f) a b h k = h.3 ∙ sym k.3
    determined (Between negated offset e low high) a b h k = h.4 ∙ sym k.4
    determined (In negated offset values e) a b h k = h.3 ∙ sym k.3
    determined (IsNull negated offset e) a b h k = h.2 ∙ sym k.2
    determined (Not offset e) a b h k = h.1 ∙ sym k.1
    determined (And offset es) a b h k = h.1 ∙ sym k.1
    determined (Or offset es) a b h k = h.1 ∙ sym k.1
    determined (Cast offset to e) a b h k = h.3 ∙ sym k.3
    determined (Case offset as_ o) a b h k =
        fits_both a b (either h.2 (λ arm. arm_fits as_ a b arm k.0) (λ other. else_fits o a b other k.1))
        (either k.2 (λ arm. arm_fits as_ b a arm h.0) (λ other. else_fits o b a other h.1))
    determined (CountStar offset) a b h k = h ∙ sym k
    determined (Call f offset e) a b h k = aggregate_determined f h.0 k.0 a b (determined e h.0 k.0 h.1 k.1) h.2 k.2

    -- the type of one result fits where those of all do
    arm_fits : (as_ : BoundArms) (a b : TypeOf) → IsArmType entries as_ a → ArmsFit entries as_ b → IsFitting a b
    arm_fits no_arm a b h k = absurd h
    arm_fits (one_arm when result as_) a b (inl h) k = fits_same a k.1.0 b (determined result a k.1.0 h k.1.1) k.1.2
    arm_fits (one_arm when result as_) a b (inr h) k = arm_fits as_ a b h k.2

    else_fits : (o : BoundOtherwise) (a b : TypeOf) → IsElseType entries o a → IsOfFitting (IsElseType entries o) b → IsFitting a b
    else_fits Nothing a b h k = inl h
    else_fits (Value e) a b h k = fits_same a k.0 b (determined e a k.0 h k.1) k.2
