-- Type checking gives to operations the types of the rules.
use Rattle.std.proofs.Common.{◌≡◌, ℕ, Bool, true, false, ◌&&◌, All, List, ◌∷◌, map, Option, Some, None, Ok, sym, ap, ap₂, ◌∙◌}
use Rattle.value.specs.Datum.{Datum}
use Rattle.value.specs.declared.types.ColType.{ColType}
use Rattle.value.specs.declared.types.ColType.TheVariants.{Bigint, Boolean}
use Rattle.value.specs.declared.operators.Aggregate.{Aggregate}
use Rattle.value.specs.declared.operators.Aggregate.TheVariants.{Count, Sum, Min, Max}
use Rattle.typing.specs.Typing.{TypeOf, Typed, fits, common, common_of, common_of_all, can_cast, is_ordered, type_if, type_of, truth_if_common, negation_type, arithmetic_type, comparison_type, membership_type, null_check_type, not_type, cast_type, call_type, between_type}
use Rattle.type_laws.specs.Rules.{IsOfFitting, HasType, IsAggregateType}
use Rattle.type_laws.proofs.Fitting.{has_order, test_passes}
use Rattle.type_laws.proofs.Commons.{have_common, have_all_common}

-- each type of which P holds is the one that type checking finds
abbrev pub Finds : (TypeOf → Type 0) → Typed → Type 0
Finds P a = (t : TypeOf) → P t → a ≡ Ok t

module _ (offset : ℕ) where
  passed : (holds : Bool) (t u : TypeOf) → holds ≡ true → u ≡ t → type_if offset holds t ≡ Ok u
  passed true t u h e = ap Ok (sym e)
  passed false t u h e = absurd (cc)

  compared : (o : Option TypeOf) (c t : TypeOf) → o ≡ Some c → t ≡ Some Boolean → truth_if_common offset o ≡ Ok t
  compared None c t h e = absurd (cc)
  compared (Some d) c t h e = ap Ok (sym e)

  module _ (P : TypeOf → Type 0) where
    pub negation_found : (a : Typed) → Finds P a → Finds (λ t. IsOfFitting P (Some Bigint) × (t ≡ Some Bigint)) (negation_type offset a)
    negation_found a h t ((b, p, fit), e) = ap (negation_type offset) (h b p) ∙ passed (fits Bigint b) (Some Bigint) t (test_passes Bigint b fit) e

    pub membership_found : (a : Typed) (values : List Datum) → Finds P a → Finds (λ t. (c : ColType) × IsOfFitting P (Some c) × All (HasType (Some c)) values × (t ≡ Some Boolean)) (membership_type offset a values)
    membership_found a values h t (c, (b, p, fit), all, e) =
        let m = have_all_common b values (Some c) fit all in ap (λ a. membership_type offset a values) (h b p) ∙ compared (common_of_all (b ∷ map type_of values)) m.0 t m.1 e

    pub null_check_found : (a : Typed) → Finds P a → Finds (λ t. (b : TypeOf) × P b × (t ≡ Some Boolean)) (null_check_type a)
    null_check_found a h t (b, p, e) = ap null_check_type (h b p) ∙ ap Ok (sym e)

    pub not_found : (a : Typed) → Finds P a → Finds (λ t. IsOfFitting P (Some Boolean) × (t ≡ Some Boolean)) (not_type offset a)
    not_found a h t ((b, p, fit), e) = ap (not_type offset) (h b p) ∙ passed (fits Boolean b) (Some Boolean) t (test_passes Boolean b fit) e

    pub cast_found : (to : ColType) (a : Typed) → Finds P a → Finds (λ t. (b : TypeOf) × P b × (can_cast to b ≡ true) × (t ≡ Some to)) (cast_type offset to a)
    cast_found to a h t (b, p, test, e) = ap (cast_type offset to) (h b p) ∙ passed (can_cast to b) (Some to) t test e

    pub call_found : (f : Aggregate) (a : Typed) → Finds P a → Finds (λ t. (b : TypeOf) × P b × IsAggregateType f b t) (call_type offset f a)
    call_found Count a h t (b, p, e) = ap (call_type offset Count) (h b p) ∙ ap Ok (sym e)
    call_found Sum a h t (b, p, (fit, e)) = ap (call_type offset Sum) (h b p) ∙ passed (fits Bigint b) (Some Bigint) t (test_passes Bigint b fit) e
    call_found Min a h t (b, p, (ordered, e)) = ap (call_type offset Min) (h b p) ∙ passed (is_ordered b) b t (has_order b ordered) e
    call_found Max a h t (b, p, (ordered, e)) = ap (call_type offset Max) (h b p) ∙ passed (is_ordered b) b t (has_order b ordered) e

    module _ (Q : TypeOf → Type 0) where
      pub arithmetic_found : (a b : Typed) → Finds P a → Finds Q b → Finds (λ t. IsOfFitting P (Some Bigint) × IsOfFitting Q (Some Bigint) × (t ≡ Some Bigint)) (arithmetic_type offset a b)
      arithmetic_found a b h k t ((x, p, fit), (y, q, fit_too), e) =
          ap₂ (arithmetic_type offset) (h x p) (k y q) ∙ passed (fits Bigint x && fits Bigint y) (Some Bigint) t (ap₂ ◌&&◌ (test_passes Bigint x fit) (test_passes Bigint y fit_too)) e

      pub comparison_found : (a b : Typed) → Finds P a → Finds Q b → Finds (λ t. (c : ColType) × IsOfFitting P (Some c) × IsOfFitting Q (Some c) × (t ≡ Some Boolean)) (comparison_type offset a b)
      comparison_found a b h k t (c, (x, p, fit), (y, q, fit_too), e) =
          let m = have_common x y (Some c) fit fit_too in ap₂ (comparison_type offset) (h x p) (k y q) ∙ compared (common x y) m.0 t m.1 e

      module _ (R : TypeOf → Type 0) where
        pub between_found : (a b c : Typed) → Finds P a → Finds Q b → Finds R c
            → Finds (λ t. (d : ColType) × IsOfFitting P (Some d) × IsOfFitting Q (Some d) × IsOfFitting R (Some d) × (t ≡ Some Boolean)) (between_type offset a b c)
        between_found a b c h k l t (d, (x, p, fit_x), (y, q, fit_y), (z, r, fit_z), e) =
            let m = have_common x y (Some d) fit_x fit_y in
            let n = have_common m.0 z (Some d) m.2 fit_z in
            ap₂ (λ a b. between_type offset a b c) (h x p) (k y q) ∙ (ap (between_type offset (Ok x) (Ok y)) (l z r) ∙ compared (common_of (common x y) (Some z)) n.0 t (ap (λ o. common_of o (Some z)) m.1 ∙ n.1) e)
