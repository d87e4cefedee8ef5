-- The types that type checking gives to operations are those of the rules.
use Rattle.std.proofs.Common.{◌≡◌, ℕ, Bool, true, ◌&&◌, All, List, ◌∷◌, map, Some, Result, Ok, Err, IfOk, refl}
use Rattle.std.proofs.lemmas.List.Elements.{All-weaker}
use Rattle.std.proofs.lemmas.Option.{IfSome_then}
use Rattle.value.specs.Datum.{Datum}
use Rattle.value.specs.declared.types.ColType.{ColType}
use Rattle.value.specs.declared.types.ColType.TheVariants.{Bigint, Boolean}
use Rattle.value.specs.declared.operators.Aggregate.{Aggregate}
use Rattle.value.specs.declared.operators.Aggregate.TheVariants.{Count, Sum, Min, Max}
use Rattle.typing.specs.Typing.{TypeOf, Typed, fits, common, common_of, common_of_all, can_cast, is_ordered, type_of, negation_type, arithmetic_type, comparison_type, membership_type, null_check_type, not_type, cast_type, call_type, between_type, conditions_type}
use Rattle.type_laws.specs.Rules.{IsOfFitting, HasType, IsAggregateType}
use Rattle.type_laws.proofs.Fitting.{fits_by_test, fits_further, not_boolean}
use Rattle.type_laws.proofs.Commons.{common_fits, three_fit, some_type, all_fit}
use Rattle.type_laws.proofs.Results.{both_true, ok_if, ok_if_common}

-- P, Q and R say of which types operands are
module _ (offset : ℕ) where
  pub conditions_rule : (C : Type 0) (known : Result Bool ℕ) → IfOk known (λ holds. holds ≡ true → C) → IfOk (conditions_type offset known) (λ t. C × (t ≡ Some Boolean))
  conditions_rule C (Ok holds) h = ok_if _ offset holds (Some Boolean) (λ test. (h test, refl))
  conditions_rule C (Err i) h = tt

  module _ (P : TypeOf → Type 0) where
    pub negation_rule : (a : Typed) → IfOk a P → IfOk (negation_type offset a) (λ t. IsOfFitting P (Some Bigint) × (t ≡ Some Bigint))
    negation_rule (Ok a) h = ok_if _ offset (fits Bigint a) (Some Bigint) (λ test. ((a, h, fits_by_test Bigint a test), refl))
    negation_rule (Err i) h = tt

    pub membership_rule : (a : Typed) (values : List Datum) → IfOk a P → IfOk (membership_type offset a values) (λ t. (c : ColType) × IsOfFitting P (Some c) × All (HasType (Some c)) values × (t ≡ Some Boolean))
    membership_rule (Ok a) values h =
        ok_if_common _ offset (common_of_all (a ∷ map type_of values)) (IfSome_then (common_of_all (a ∷ map type_of values)) (all_fit a values) (λ d p.
        let c = some_type d in
        (c.0, (a, h, fits_further a d (Some c.0) p.0 c.1), All-weaker (HasType d) (HasType (Some c.0)) (λ value q. fits_further (type_of value) d (Some c.0) q c.1) values p.1, refl)))
    membership_rule (Err i) values h = tt

    pub null_check_rule : (a : Typed) → IfOk a P → IfOk (null_check_type a) (λ t. (b : TypeOf) × P b × (t ≡ Some Boolean))
    null_check_rule (Ok a) h = (a, h, refl)
    null_check_rule (Err i) h = tt

    pub not_rule : (a : Typed) → IfOk a P → IfOk (not_type offset a) (λ t. IsOfFitting P (Some Boolean) × (t ≡ Some Boolean))
    not_rule (Ok a) h = ok_if _ offset (fits Boolean a) (Some Boolean) (λ test. ((a, h, fits_by_test Boolean a test), refl))
    not_rule (Err i) h = tt

    pub cast_rule : (to : ColType) (a : Typed) → IfOk a P → IfOk (cast_type offset to a) (λ t. (b : TypeOf) × P b × (can_cast to b ≡ true) × (t ≡ Some to))
    cast_rule to (Ok a) h = ok_if _ offset (can_cast to a) (Some to) (λ test. (a, h, test, refl))
    cast_rule to (Err i) h = tt

    pub call_rule : (f : Aggregate) (a : Typed) → IfOk a P → IfOk (call_type offset f a) (λ t. (b : TypeOf) × P b × IsAggregateType f b t)
    call_rule Count (Ok a) h = (a, h, refl)
    call_rule Sum (Ok a) h = ok_if _ offset (fits Bigint a) (Some Bigint) (λ test. (a, h, (fits_by_test Bigint a test, refl)))
    call_rule Min (Ok a) h = ok_if _ offset (is_ordered a) a (λ test. (a, h, (not_boolean a test, refl)))
    call_rule Max (Ok a) h = ok_if _ offset (is_ordered a) a (λ test. (a, h, (not_boolean a test, refl)))
    call_rule f (Err i) h = tt

    module _ (Q : TypeOf → Type 0) where
      pub arithmetic_rule : (a b : Typed) → IfOk a P → IfOk b Q → IfOk (arithmetic_type offset a b) (λ t. IsOfFitting P (Some Bigint) × IsOfFitting Q (Some Bigint) × (t ≡ Some Bigint))
      arithmetic_rule (Ok a) (Ok b) h k =
          ok_if _ offset (fits Bigint a && fits Bigint b) (Some Bigint) (λ test.
          let tests = both_true (fits Bigint a) (fits Bigint b) test in ((a, h, fits_by_test Bigint a tests.0), (b, k, fits_by_test Bigint b tests.1), refl))
      arithmetic_rule (Ok a) (Err j) h k = tt
      arithmetic_rule (Err i) (Ok b) h k = tt
      arithmetic_rule (Err i) (Err j) h k = tt

      pub comparison_rule : (a b : Typed) → IfOk a P → IfOk b Q → IfOk (comparison_type offset a b) (λ t. (c : ColType) × IsOfFitting P (Some c) × IsOfFitting Q (Some c) × (t ≡ Some Boolean))
      comparison_rule (Ok a) (Ok b) h k =
          ok_if_common _ offset (common a b) (IfSome_then (common a b) (common_fits a b) (λ d p.
          let c = some_type d in (c.0, (a, h, fits_further a d (Some c.0) p.0 c.1), (b, k, fits_further b d (Some c.0) p.1 c.1), refl)))
      comparison_rule (Ok a) (Err j) h k = tt
      comparison_rule (Err i) (Ok b) h k = tt
      comparison_rule (Err i) (Err j) h k = tt

      module _ (R : TypeOf → Type 0) where
        pub between_rule : (a b c : Typed) → IfOk a P → IfOk b Q → IfOk c R
            → IfOk (between_type offset a b c) (λ t. (d : ColType) × IsOfFitting P (Some d) × IsOfFitting Q (Some d) × IsOfFitting R (Some d) × (t ≡ Some Boolean))
        between_rule (Ok a) (Ok b) (Ok c) h k m =
            ok_if_common _ offset (common_of (common a b) (Some c)) (IfSome_then (common_of (common a b) (Some c)) (three_fit a b c) (λ e p.
            let d = some_type e in
            (d.0, (a, h, fits_further a e (Some d.0) p.0 d.1), (b, k, fits_further b e (Some d.0) p.1 d.1), (c, m, fits_further c e (Some d.0) p.2 d.1), refl)))
        between_rule (Ok a) (Ok b) (Err j) h k m = tt
        between_rule (Ok a) (Err j) (Ok c) h k m = tt
        between_rule (Ok a) (Err j) (Err n) h k m = tt
        between_rule (Err i) (Ok b) (Ok c) h k m = tt
        between_rule (Err i) (Ok b) (Err n) h k m = tt
        between_rule (Err i) (Err j) (Ok c) h k m = tt
        between_rule (Err i) (Err j) (Err n) h k m = tt
