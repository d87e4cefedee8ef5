-- Commutators.
use Rattle.std.proofs.Common.{◌≡◌, refl}
use Rattle.std.specs.Ordering.{ordering_reverse}
use Rattle.std.specs.declared.cmp.Ordering.{Ordering}
use Rattle.std.specs.declared.cmp.Ordering.TheVariants as order
use Rattle.value.specs.Operators.{commutator}
use Rattle.value.specs.Orders.{test_of}
use Rattle.value.specs.declared.operators.Comparison.{Comparison}
use Rattle.value.specs.declared.operators.Comparison.TheVariants.{Equal, NotEqual, Less, LessOrEqual, Greater, GreaterOrEqual}

-- the commutator tests the order of the operands exchanged
pub commuted : (op : Comparison) (o : Ordering) → test_of (commutator op) o ≡ test_of op (ordering_reverse o)
commuted Equal = elim [ order.Less ↦ refl | order.Equal ↦ refl | order.Greater ↦ refl ]
commuted NotEqual = elim [ order.Less ↦ refl | order.Equal ↦ refl | order.Greater ↦ refl ]
commuted Less = elim [ order.Less ↦ refl | order.Equal ↦ refl | order.Greater ↦ refl ]
commuted LessOrEqual = elim [ order.Less ↦ refl | order.Equal ↦ refl | order.Greater ↦ refl ]
commuted Greater = elim [ order.Less ↦ refl | order.Equal ↦ refl | order.Greater ↦ refl ]
commuted GreaterOrEqual = elim [ order.Less ↦ refl | order.Equal ↦ refl | order.Greater ↦ refl ]
