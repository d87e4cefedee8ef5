-- The comparisons of a machine's signed numbers, and what they say of the numbers.
use Rattle.std.proofs.Common.{◌≡◌, ℕ, ℤ, Bool, not, nat_eq, arith, w64, FitsSigned, to_z, of_z}
use Rattle.std.proofs.lemmas.Int.{ints, to_z-of_z}
use Rattle.value.specs.declared.operators.Comparison.{Comparison}
use Rattle.value.specs.declared.operators.Comparison.TheVariants.{Equal, NotEqual, Less, LessOrEqual, Greater, GreaterOrEqual}
use Rattle.columns.specs.Comparing.{holds}
use lib.Signed.{lt_z, le_z}

-- two numbers compared by their bits
abbrev pub machine : Comparison → ℕ → ℕ → Bool
machine Equal a b = nat_eq a b
machine NotEqual a b = not (nat_eq a b)
machine Less a b = lt_z (to_z w64 a) (to_z w64 b)
machine LessOrEqual a b = le_z (to_z w64 a) (to_z w64 b)
machine Greater a b = lt_z (to_z w64 b) (to_z w64 a)
machine GreaterOrEqual a b = le_z (to_z w64 b) (to_z w64 a)

signed : Comparison → ℤ → ℤ → Bool
signed op x y = machine op (of_z w64 x) (of_z w64 y)

pub same_bits : (x y : ℤ) → FitsSigned w64 x → FitsSigned w64 y → nat_eq (of_z w64 x) (of_z w64 y) ≡ holds Equal x y
same_bits x y f g = grind (arith, ints)

pub other_bits : (x y : ℤ) → FitsSigned w64 x → FitsSigned w64 y → not (nat_eq (of_z w64 x) (of_z w64 y)) ≡ holds NotEqual x y
other_bits x y f g = grind (arith, ints)

pub less_is : (x y : ℤ) → lt_z x y ≡ holds Less x y
less_is x y = grind (arith, ints)

pub at_most_is : (x y : ℤ) → le_z x y ≡ holds LessOrEqual x y
at_most_is x y = grind (arith, ints)

pub greater_is : (x y : ℤ) → lt_z y x ≡ holds Greater x y
greater_is x y = grind (arith, ints)

pub at_least_is : (x y : ℤ) → le_z y x ≡ holds GreaterOrEqual x y
at_least_is x y = grind (arith, ints)

-- the machine's comparison of numbers that fit is the comparison
pub machine_is : (op : Comparison) (x y : ℤ) → FitsSigned w64 x → FitsSigned w64 y → machine op (of_z w64 x) (of_z w64 y) ≡ holds op x y
machine_is Equal x y f g = same_bits x y f g
machine_is NotEqual x y f g = other_bits x y f g
machine_is Less x y f g = rw (to_z-of_z w64 x f, to_z-of_z w64 y g) (less_is x y)
machine_is LessOrEqual x y f g = rw (to_z-of_z w64 x f, to_z-of_z w64 y g) (at_most_is x y)
machine_is Greater x y f g = rw (to_z-of_z w64 x f, to_z-of_z w64 y g) (greater_is x y)
machine_is GreaterOrEqual x y f g = rw (to_z-of_z w64 x f, to_z-of_z w64 y g) (at_least_is x y)
