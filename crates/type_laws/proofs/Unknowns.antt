-- Comparisons are unknown only of null.
use Rattle.std.proofs.Common.{◌≡◌, ◌⊎◌, inl, inr, Bool, true, false, List, [], ◌∷◌, Contains, refl, arith}
use Rattle.std.proofs.lemmas.List.Elements.{Contains-append_right}
use Rattle.std.specs.declared.cmp.Ordering.{Ordering}
use Rattle.std.specs.Ordering.{is_eq, is_ne, is_lt, is_le, is_gt, is_ge}
use Rattle.value.specs.Datum.{Datum, null, int, text, bool}
use Rattle.value.specs.Orders.{compared, datum_cmp, equal_of, of_bool}
use Rattle.value.specs.Truths.{least, greatest}
use Rattle.value.specs.declared.order.Truth.{Truth}
use Rattle.value.specs.declared.order.Truth.TheVariants.{False, Unknown, True}
use Rattle.value.specs.declared.operators.Comparison.TheVariants.{Equal, NotEqual, Less, LessOrEqual, Greater, GreaterOrEqual}
use Rattle.eval.specs.Operators.{comparison_of, in_of}
use Rattle.type_laws.specs.Nulls.{ComparisonUnknownOnlyOfNull, EqualityUnknownOnlyOfNull, MembershipUnknownOnlyOfNull, BetweenUnknownOnlyOfNull}

-- ---- one comparison

test_known : (b : Bool) → of_bool b ≡ Unknown → ⊥
test_known true h = cc
test_known false h = cc

compared_unknown : (test : Ordering → Bool) (x y : Datum) → compared test x y ≡ Unknown → (x ≡ null) ⊎ (y ≡ null)
compared_unknown test null y h = inl refl
compared_unknown test (int n) null h = inr refl
compared_unknown test (text t) null h = inr refl
compared_unknown test (bool b) null h = inr refl
compared_unknown test x y h = absurd (test_known (test (datum_cmp x y)) h)

pub comparison_unknown : ComparisonUnknownOnlyOfNull
comparison_unknown Equal = compared_unknown is_eq
comparison_unknown NotEqual = compared_unknown is_ne
comparison_unknown Less = compared_unknown is_lt
comparison_unknown LessOrEqual = compared_unknown is_le
comparison_unknown Greater = compared_unknown is_gt
comparison_unknown GreaterOrEqual = compared_unknown is_ge

pub equality_unknown : EqualityUnknownOnlyOfNull
equality_unknown = compared_unknown is_eq

-- ---- several

least_unknown : (a b : Truth) → least a b ≡ Unknown → (a ≡ Unknown) ⊎ (b ≡ Unknown)
least_unknown Unknown b h = inl refl
least_unknown a Unknown h = inr refl
least_unknown False False h = absurd (cc)
least_unknown False True h = absurd (cc)
least_unknown True False h = absurd (cc)
least_unknown True True h = absurd (cc)

greatest_unknown : (a b : Truth) → greatest a b ≡ Unknown → (a ≡ Unknown) ⊎ (b ≡ Unknown)
greatest_unknown Unknown b h = inl refl
greatest_unknown a Unknown h = inr refl
greatest_unknown False False h = absurd (cc)
greatest_unknown False True h = absurd (cc)
greatest_unknown True False h = absurd (cc)
greatest_unknown True True h = absurd (cc)

first_is_null : (x : Datum) (values : List Datum) → x ≡ null → Contains (x ∷ values) null
first_is_null x values e = (0, omega arith, e)

first_unknown : (x value : Datum) (values : List Datum) → (x ≡ null) ⊎ (value ≡ null) → (x ≡ null) ⊎ Contains (value ∷ values) null
first_unknown x value values (inl e) = inl e
first_unknown x value values (inr e) = inr (first_is_null value values e)

later_unknown : (x value : Datum) (values : List Datum) → (x ≡ null) ⊎ Contains values null → (x ≡ null) ⊎ Contains (value ∷ values) null
later_unknown x value values (inl e) = inl e
later_unknown x value values (inr c) = inr (Contains-append_right (value ∷ []) values null c)

pub membership_unknown : MembershipUnknownOnlyOfNull
membership_unknown x [] h = absurd (cc)
membership_unknown x (value ∷ values) h =
    elim (greatest_unknown (equal_of x value) (in_of x values) h) [
      | inl e ↦ first_unknown x value values (equality_unknown x value e)
      | inr e ↦ later_unknown x value values (membership_unknown x values e)
    ]

pub between_unknown : BetweenUnknownOnlyOfNull
between_unknown x low high h = bounds (least_unknown (comparison_of GreaterOrEqual x low) (comparison_of LessOrEqual x high) h)
  where
    below : (x ≡ null) ⊎ (low ≡ null) → (x ≡ null) ⊎ (low ≡ null) ⊎ (high ≡ null)
    below (inl e) = inl e
    below (inr e) = inr (inl e)

    above : (x ≡ null) ⊎ (high ≡ null) → (x ≡ null) ⊎ (low ≡ null) ⊎ (high ≡ null)
    above (inl e) = inl e
    above (inr e) = inr (inr e)

    bounds : (comparison_of GreaterOrEqual x low ≡ Unknown) ⊎ (comparison_of LessOrEqual x high ≡ Unknown) → (x ≡ null) ⊎ (low ≡ null) ⊎ (high ≡ null)
    bounds (inl e) = below (comparison_unknown GreaterOrEqual x low e)
    bounds (inr e) = above (comparison_unknown LessOrEqual x high e)
