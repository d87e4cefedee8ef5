-- The kinds of faults: their order, their codes, and their meanings.
use Rattle.std.specs.Prelude.{ℕ, List, codes}
use Rattle.std.specs.declared.cmp.Ordering.{Ordering}
use Rattle.std.specs.Ordering.{nat_cmp, on}
use Rattle.value.specs.declared.types.FaultKind.{FaultKind}
use Rattle.value.specs.declared.types.FaultKind.TheVariants.{Div0, Range, BadText}

-- of two kinds that both apply, the lower is reported
abbrev pub kind_rank : FaultKind → ℕ
kind_rank Div0 = 0
kind_rank Range = 1
kind_rank BadText = 2

abbrev pub kind_cmp : FaultKind → FaultKind → Ordering
kind_cmp = on kind_rank nat_cmp

abbrev pub kind_code : FaultKind → List ℕ
kind_code Div0 = codes "22012"
kind_code Range = codes "22003"
kind_code BadText = codes "22P02"

abbrev pub kind_meaning : FaultKind → List ℕ
kind_meaning Div0 = codes "division by zero"
kind_meaning Range = codes "the number does not fit in a bigint"
kind_meaning BadText = codes "the text is no number or no truth value"
