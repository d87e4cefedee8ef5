-- The type by the rules is the one that is described.
use Rattle.std.proofs.Common.{◌≡◌, ◌⊎◌, inl, inr, ℕ, List, get_or, Some, None, Ok, refl, sym, ap, subst, ◌∙◌}
use Rattle.value.specs.Names.{Name}
use Rattle.value.specs.declared.operators.Aggregate.{Aggregate}
use Rattle.value.specs.declared.operators.Aggregate.TheVariants.{Count, Sum, Min, Max}
use Rattle.expr.specs.Bound.{BoundExpr, Column, Literal, CurrentUser, Negate, Arithmetic, Comparison, Between, In, IsNull, Not, And, Or, Cast, Case, CountStar, Call, BoundArms, no_arm, one_arm, BoundOtherwise, Nothing, Value}
use Rattle.scope.specs.Entry.{Entry}
use Rattle.typing.specs.Typing.{TypeOf}
use Rattle.type_laws.specs.Rules.{IsFitting, IsOfFitting, IsAggregateType, IsOfType, ArmsFit, IsArmType, IsElseType}
use Rattle.type_laws.proofs.Fitting.{fits_same}
use Rattle.query_laws.specs.Typed.{HasSomeType}
use Rattle.query_laws.proofs.Typed.{admitted_are_typed}
use Rattle.descriptions.specs.Laws.{DescribedTypes}
use Rattle.descriptions.specs.Types.{arms_type, bound_type, call_type, first_type, otherwise_type}

-- ---- the first of types that fit

first_fits : (a b t : TypeOf) → IsFitting a t → IsFitting b t → IsFitting (first_type a b) t
first_fits None b t h k = k
first_fits (Some c) b t h k = h

-- it is the one that all fit, where one of them is
first_is : (a b t : TypeOf) → a ≡ t → IsFitting b t → first_type a b ≡ t
first_is (Some c) b t h k = h
first_is None b t h (inl k) = k ∙ h
first_is None b t h (inr k) = k

second_is : (a b t : TypeOf) → IsFitting a t → b ≡ t → first_type a b ≡ t
second_is None b t h k = k
second_is (Some c) b t (inl h) k = absurd (cc)
second_is (Some c) b t (inr h) k = h

either : {A B C : Type 0} → A ⊎ B → (A → C) → (B → C) → C
either (inl a) f g = f a
either (inr b) f g = g b

call_is : (f : Aggregate) (x a t : TypeOf) → x ≡ a → IsAggregateType f a t → call_type f x ≡ t
call_is Count x a t e h = sym h
call_is Sum x a t e h = sym h.1
call_is Min x a t e h = e ∙ sym h.1
call_is Max x a t e h = e ∙ sym h.1

-- ---- expressions

module _ (entries : List Entry) where
  mutual
    pub is_described : (x : BoundExpr) (t : TypeOf) → IsOfType entries x t → bound_type entries x ≡ t
    is_described (Column id) t h = sym h
    is_described (Literal d) t h = sym h
    is_described CurrentUser t h = sym h
    is_described (Negate offset e) t h = sym h.1
    is_described (Arithmetic op offset e f) t h = sym h.2
    is_described (Comparison op offset e f) t h = sym h.3
    is_described (Between negated offset e low high) t h = sym h.4
    is_described (In negated offset values e) t h = sym h.3
    is_described (IsNull negated offset e) t h = sym h.2
    is_described (Not offset e) t h = sym h.1
    is_described (And offset es) t h = sym h.1
    is_described (Or offset es) t h = sym h.1
    is_described (Cast offset to e) t h = sym h.3
    is_described (Case offset as_ o) t h =
        let arms = arms_type entries as_ in
        let other = otherwise_type entries o in
        either h.2 (λ arm. first_is arms other t (arm_is as_ t h.0 arm) (fits_same other h.1.0 t (else_is o h.1.0 h.1.1) h.1.2)) (λ last. second_is arms other t (arms_fit as_ t h.0) (else_is o t last))
    is_described (CountStar offset) t h = sym h
    is_described (Call f offset e) t h = call_is f (bound_type entries e) h.0 t (is_described e h.0 h.1) h.2

    arms_fit : (as_ : BoundArms) (t : TypeOf) → ArmsFit entries as_ t → IsFitting (arms_type entries as_) t
    arms_fit no_arm t h = inl refl
    arms_fit (one_arm when result as_) t h = first_fits (bound_type entries result) (arms_type entries as_) t (fits_same (bound_type entries result) h.1.0 t (is_described result h.1.0 h.1.1) h.1.2) (arms_fit as_ t h.2)

    arm_is : (as_ : BoundArms) (t : TypeOf) → ArmsFit entries as_ t → IsArmType entries as_ t → arms_type entries as_ ≡ t
    arm_is no_arm t h k = absurd k
    arm_is (one_arm when result as_) t h (inl k) = first_is (bound_type entries result) (arms_type entries as_) t (is_described result t k) (arms_fit as_ t h.2)
    arm_is (one_arm when result as_) t h (inr k) = second_is (bound_type entries result) (arms_type entries as_) t (fits_same (bound_type entries result) h.1.0 t (is_described result h.1.0 h.1.1) h.1.2) (arm_is as_ t h.2 k)

    else_is : (o : BoundOtherwise) (t : TypeOf) → IsElseType entries o t → otherwise_type entries o ≡ t
    else_is Nothing t h = sym h
    else_is (Value e) t h = is_described e t h

  is_of_described : (x : BoundExpr) → HasSomeType entries x → IsOfType entries x (bound_type entries x)
  is_of_described x h = subst (IsOfType entries x) (sym (is_described x h.0 h.1)) h.1

pub described_types : DescribedTypes
described_types cat role text b e k d lt = is_of_described b.entries (get_or b.query.items k d).value ((admitted_are_typed cat role text b e).items k d lt)
