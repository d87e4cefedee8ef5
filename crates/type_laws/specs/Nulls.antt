-- Operators are null or unknown only where an operand is null.
use Rattle.std.specs.Prelude.{◌≡◌, ◌⊎◌, Contains, List, Some, Ok}
use Rattle.value.specs.Datum.{Datum, null}
use Rattle.value.specs.Orders.{equal_of}
use Rattle.value.specs.Conditions.{truth_at}
use Rattle.value.specs.Exact.{with_number, negated_of}
use Rattle.value.specs.Casts.{cast_of}
use Rattle.value.specs.declared.order.Truth.TheVariants.{Unknown}
use Rattle.value.specs.declared.types.ColType.{ColType}
use Rattle.value.specs.declared.types.ColType.TheVariants.{Bigint, Boolean}
use Rattle.value.specs.declared.operators.Arithmetic.{Arithmetic}
use Rattle.value.specs.declared.operators.Comparison.{Comparison}
use Rattle.eval.specs.Operators.{arithmetic_of, comparison_of, between_of, in_of}
use Rattle.type_laws.specs.Rules.{HasType}

-- ---- of operands of their types

abbrev pub ArithmeticNullOnlyOfNull : Type 0
ArithmeticNullOnlyOfNull = (op : Arithmetic) (x y : Datum) → HasType (Some Bigint) x → HasType (Some Bigint) y → arithmetic_of op x y ≡ Ok null → (x ≡ null) ⊎ (y ≡ null)

abbrev pub NegationNullOnlyOfNull : Type 0
NegationNullOnlyOfNull = (x : Datum) → HasType (Some Bigint) x → with_number negated_of x ≡ Ok null → x ≡ null

-- a condition is a truth value
abbrev pub ConditionUnknownOnlyOfNull : Type 0
ConditionUnknownOnlyOfNull = (x : Datum) → HasType (Some Boolean) x → truth_at x ≡ Unknown → x ≡ null

-- ---- of all values

abbrev pub ComparisonUnknownOnlyOfNull : Type 0
ComparisonUnknownOnlyOfNull = (op : Comparison) (x y : Datum) → comparison_of op x y ≡ Unknown → (x ≡ null) ⊎ (y ≡ null)

abbrev pub EqualityUnknownOnlyOfNull : Type 0
EqualityUnknownOnlyOfNull = (x y : Datum) → equal_of x y ≡ Unknown → (x ≡ null) ⊎ (y ≡ null)

abbrev pub MembershipUnknownOnlyOfNull : Type 0
MembershipUnknownOnlyOfNull = (x : Datum) (values : List Datum) → in_of x values ≡ Unknown → (x ≡ null) ⊎ Contains values null

abbrev pub BetweenUnknownOnlyOfNull : Type 0
BetweenUnknownOnlyOfNull = (x low high : Datum) → between_of x low high ≡ Unknown → (x ≡ null) ⊎ (low ≡ null) ⊎ (high ≡ null)

abbrev pub CastNullOnlyOfNull : Type 0
CastNullOnlyOfNull = (to : ColType) (x : Datum) → cast_of to x ≡ Ok null → x ≡ null
