-- The truth values that two masks show, and the values of an operand.
use Rattle.std.specs.Prelude.{ℕ, zero, suc, ◌+◌, ◌==◌, if◌then◌else◌, List, [], ◌∷◌, replicate}
use Rattle.value.specs.Datum.{Datum, int}
use Rattle.value.specs.declared.order.Truth.{Truth}
use Rattle.value.specs.declared.order.Truth.TheVariants.{False, Unknown, True}
use Rattle.columns.specs.Bits.{bit_of}
use Rattle.columns.specs.Comparing.{Show}
use Rattle.lane_filters.specs.declared.truths.Truths.TheInside.{Inside}
use Rattle.lane_filters.specs.declared.operand.Operand.{Operand}
use Rattle.lane_filters.specs.declared.operand.Operand.TheVariants.{Column, Number}

-- by the bit for true and the bit for null
abbrev pub truth_by : ℕ → ℕ → Truth
truth_by true_bit null_bit = if true_bit == 1 then True else if null_bit == 1 then Unknown else False

-- the next n truth values from index i on
unfoldable pub truths_from : List ℕ → List ℕ → ℕ → ℕ → List Truth
truths_from trues nulls i zero = []
truths_from trues nulls i (suc n) = truth_by (bit_of trues i) (bit_of nulls i) ∷ truths_from trues nulls (i + 1) n

abbrev pub truths_in : {A : Type 0} → Inside A → List Truth
truths_in t = truths_from t.trues.items t.nulls.items 0 t.len

-- the masks have no other bits
abbrev pub AreShown : {A : Type 0} → Inside A → Type 0
AreShown t = Show (truths_in t) t.trues.items t.nulls.items

-- the value of an operand on each of so many rows
abbrev pub values_of : {A : Type 0} → ℕ → Operand A → List Datum
values_of rows (Column values) = values.now
values_of rows (Number n) = replicate rows (int n)
