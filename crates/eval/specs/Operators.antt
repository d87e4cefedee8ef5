-- The operators of values.
use Rattle.std.specs.Prelude.{Bool, true, false, List, [], ◌∷◌, Result}
use Rattle.value.specs.Datum.{Datum, null, int, text, bool}
use Rattle.value.specs.Orders.{compared, equal_of, test_of}
use Rattle.value.specs.Truths.{least, greatest, negated}
use Rattle.value.specs.Exact.{with_numbers, sum_of, difference_of, product_of, quotient_of, remainder_of}
use Rattle.value.specs.declared.order.Truth.{Truth}
use Rattle.value.specs.declared.order.Truth.TheVariants.{False, True}
use Rattle.value.specs.declared.types.FaultKind.{FaultKind}
use Rattle.value.specs.declared.operators.Arithmetic.{Arithmetic}
use Rattle.value.specs.declared.operators.Arithmetic.TheVariants.{Add, Subtract, Multiply, Divide, Remainder}
use Rattle.value.specs.declared.operators.Comparison.{Comparison}
use Rattle.value.specs.declared.operators.Comparison.TheVariants.{LessOrEqual, GreaterOrEqual}

abbrev pub arithmetic_of : Arithmetic → Datum → Datum → Result Datum FaultKind
arithmetic_of Add = with_numbers sum_of
arithmetic_of Subtract = with_numbers difference_of
arithmetic_of Multiply = with_numbers product_of
arithmetic_of Divide = with_numbers quotient_of
arithmetic_of Remainder = with_numbers remainder_of

abbrev pub comparison_of : Comparison → Datum → Datum → Truth
comparison_of operator = compared (test_of operator)

-- x >= low AND x <= high
abbrev pub between_of : Datum → Datum → Datum → Truth
between_of x low high = least (comparison_of GreaterOrEqual x low) (comparison_of LessOrEqual x high)

-- x = value OR x = value OR ..
abbrev pub in_of : Datum → List Datum → Truth
in_of x [] = False
in_of x (value ∷ values) = greatest (equal_of x value) (in_of x values)

abbrev pub null_test : Datum → Truth
null_test null = True
null_test (int n) = False
null_test (text t) = False
null_test (bool b) = False

-- negated where NOT is written
abbrev pub negated_if : Bool → Truth → Truth
negated_if true t = negated t
negated_if false t = t
