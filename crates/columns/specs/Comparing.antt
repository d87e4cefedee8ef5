-- Comparisons of numbers, and truth values in masks.
use Rattle.std.specs.Prelude.{ℕ, ℤ, Bool, List, map}
use Rattle.std.specs.Ordering.{int_cmp}
use Rattle.columns.specs.Bits.{IsMaskOf}
use Rattle.value.specs.Orders.{is_true, is_unknown, test_of}
use Rattle.value.specs.declared.order.Truth.{Truth}
use Rattle.value.specs.declared.operators.Comparison.{Comparison}

-- a comparison of two numbers holds
abbrev pub holds : Comparison → ℤ → ℤ → Bool
holds op x y = test_of op (int_cmp x y)

-- two masks show truth values: one has a bit for each that is true, the other for each that is null
pub record Show (truths : List Truth) (trues nulls : List ℕ) : Type 0 where
  pub true_bits : IsMaskOf (map is_true truths) trues
  pub null_bits : IsMaskOf (map is_unknown truths) nulls
