-- Whole numbers within 64 bits, and arithmetic: the exact number, then the test of range.
use Rattle.std.specs.Prelude.{ℤ, pos, negsuc, neg_ℤ, ◌+ℤ◌, ◌-ℤ◌, ◌*ℤ◌, int_div, int_rem, ◌^◌, nat_lt, Bool, if◌then◌else◌, Result, Ok, Err}
use Rattle.std.specs.Ordering.{int_eq}
use Rattle.value.specs.Datum.{Datum, null, int}
use Rattle.value.specs.declared.types.FaultKind.{FaultKind}
use Rattle.value.specs.declared.types.FaultKind.TheVariants.{Div0, Range}

-- from -2^63 up to below 2^63
abbrev pub is_bigint : ℤ → Bool
is_bigint (pos n) = nat_lt n (2 ^ 63)
is_bigint (negsuc n) = nat_lt n (2 ^ 63)

-- the exact number, or `Range` if it lies outside
abbrev pub in_range : ℤ → Result ℤ FaultKind
in_range z = if is_bigint z then Ok z else Err Range

abbrev pub as_number : Result ℤ FaultKind → Result Datum FaultKind
as_number (Ok n) = Ok (int n)
as_number (Err k) = Err k

-- ---- arithmetic

abbrev pub sum_of : ℤ → ℤ → Result ℤ FaultKind
sum_of x y = in_range (x +ℤ y)

abbrev pub difference_of : ℤ → ℤ → Result ℤ FaultKind
difference_of x y = in_range (x -ℤ y)

abbrev pub product_of : ℤ → ℤ → Result ℤ FaultKind
product_of x y = in_range (x *ℤ y)

-- toward zero
abbrev pub quotient_of : ℤ → ℤ → Result ℤ FaultKind
quotient_of x y = if int_eq y (pos 0) then Err Div0 else in_range (int_div x y)

-- with the sign of the dividend
abbrev pub remainder_of : ℤ → ℤ → Result ℤ FaultKind
remainder_of x y = if int_eq y (pos 0) then Err Div0 else in_range (int_rem x y)

abbrev pub negated_of : ℤ → Result ℤ FaultKind
negated_of x = in_range (neg_ℤ x)

-- of two numbers; null where an operand is null, and where one is not a number
abbrev pub with_numbers : (ℤ → ℤ → Result ℤ FaultKind) → Datum → Datum → Result Datum FaultKind
with_numbers f (int x) (int y) = as_number (f x y)
with_numbers f _ _ = Ok null

-- of one number
abbrev pub with_number : (ℤ → Result ℤ FaultKind) → Datum → Result Datum FaultKind
with_number f (int x) = as_number (f x)
with_number f _ = Ok null
