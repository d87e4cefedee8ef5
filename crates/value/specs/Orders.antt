-- The order of values, ascending with nulls last, and comparison in three-valued logic.
use Rattle.std.specs.Prelude.{ℕ, ℤ, pos, Bool, true, false, List, []}
use Rattle.std.specs.declared.cmp.Ordering.{Ordering}
use Rattle.std.specs.Ordering.{nat_cmp, int_cmp, on, then_cmp, is_eq, is_ne, is_lt, is_le, is_gt, is_ge}
use Rattle.std.specs.Cmp.Lexicographic.{slice_cmp}
use Rattle.value.specs.declared.operators.Comparison.{Comparison}
use Rattle.value.specs.declared.operators.Comparison.TheVariants.{Equal, NotEqual, Less, LessOrEqual, Greater, GreaterOrEqual}
use Rattle.value.specs.declared.order.Truth.{Truth}
use Rattle.value.specs.declared.order.Truth.TheVariants.{False, Unknown, True}
use Rattle.value.specs.Datum.{Datum, null, int, text, bool, Row}

-- false before true, and of different types truth values, then numbers, then texts; nulls last
abbrev pub class : Datum → ℕ
class (bool false) = 0
class (bool true) = 1
class (int n) = 2
class (text t) = 3
class null = 4

abbrev pub number : Datum → ℤ
number (int n) = n
number null = pos 0
number (text t) = pos 0
number (bool b) = pos 0

abbrev pub bytes : Datum → List ℕ
bytes (text t) = t
bytes null = []
bytes (int n) = []
bytes (bool b) = []

-- by class, then by number, then text by bytes
abbrev pub datum_cmp : Datum → Datum → Ordering
datum_cmp = then_cmp (on class nat_cmp) (then_cmp (on number int_cmp) (on bytes (slice_cmp nat_cmp)))

-- by all columns, from left to right
abbrev pub row_cmp : Row → Row → Ordering
row_cmp = slice_cmp datum_cmp

abbrev pub of_bool : Bool → Truth
of_bool true = True
of_bool false = False

-- a comparison with null is null
abbrev pub compared : (Ordering → Bool) → Datum → Datum → Truth
compared test null y = Unknown
compared test (int n) null = Unknown
compared test (int n) y = of_bool (test (datum_cmp (int n) y))
compared test (text t) null = Unknown
compared test (text t) y = of_bool (test (datum_cmp (text t) y))
compared test (bool b) null = Unknown
compared test (bool b) y = of_bool (test (datum_cmp (bool b) y))

abbrev pub equal_of : Datum → Datum → Truth
equal_of = compared is_eq

abbrev pub less_of : Datum → Datum → Truth
less_of = compared is_lt

abbrev pub is_true : Truth → Bool
is_true True = true
is_true False = false
is_true Unknown = false

abbrev pub is_unknown : Truth → Bool
is_unknown True = false
is_unknown False = false
is_unknown Unknown = true

-- the orders for which a comparison holds
abbrev pub test_of : Comparison → Ordering → Bool
test_of Equal = is_eq
test_of NotEqual = is_ne
test_of Less = is_lt
test_of LessOrEqual = is_le
test_of Greater = is_gt
test_of GreaterOrEqual = is_ge
