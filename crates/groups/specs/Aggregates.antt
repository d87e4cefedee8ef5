-- The aggregates of a group.
use Rattle.std.specs.Prelude.{ℕ, ◌+◌, ℤ, pos, ◌+ℤ◌, Bool, true, false, List, [], ◌∷◌, length, Option, Some, None, Result, Ok, Err}
use Rattle.std.specs.List.{filter_map}
use Rattle.std.specs.declared.cmp.Ordering.{Ordering}
use Rattle.bags.specs.Least.{least}
use Rattle.value.specs.Datum.{Datum, null, int, text, bool, Row, cell}
use Rattle.value.specs.Orders.{number, datum_cmp}
use Rattle.value.specs.Exact.{in_range}
use Rattle.value.specs.declared.types.FaultKind.{FaultKind}
use Rattle.value.specs.declared.faults.Fault.{Fault}
use Rattle.value.specs.declared.operators.Aggregate.{Aggregate}
use Rattle.value.specs.declared.operators.Aggregate.TheVariants.{Count, Sum, Min, Max}
use Rattle.expr.specs.Aggregates.{AggregateCall}
use Rattle.memory.specs.Results.{first_then}

-- ---- the values of an argument

abbrev pub not_null : Datum → Option Datum
not_null null = None
not_null (int n) = Some (int n)
not_null (text t) = Some (text t)
not_null (bool b) = Some (bool b)

-- on the members, nulls left out; a member has an argument for each aggregate, so that no null stands for one that is missing
abbrev pub values_at : ℕ → List Row → List Datum
values_at index members = filter_map (λ arguments. not_null (cell arguments index)) members

-- ---- the value of an aggregate

-- over whole numbers without bound
abbrev pub exact_sum : List Datum → ℤ
exact_sum [] = pos 0
exact_sum (d ∷ ds) = number d +ℤ exact_sum ds

-- a number, or its fault at an offset
abbrev pub number_at : ℕ → Result ℤ FaultKind → Result Datum Fault
number_at offset (Ok n) = Ok (int n)
number_at offset (Err kind) = Err (record { offset = offset; kind = kind })

abbrev pub or_null : Option Datum → Datum
or_null None = null
or_null (Some d) = d

abbrev pub descending_cmp : Datum → Datum → Ordering
descending_cmp a b = datum_cmp b a

-- descending or ascending
abbrev pub towards : Bool → Datum → Datum → Ordering
towards false = datum_cmp
towards true = descending_cmp

-- the exact count or sum, which has to lie within 64 bits; of no values the count is 0, and all else is null
abbrev pub aggregate_of : Aggregate → ℕ → List Datum → Result Datum Fault
aggregate_of Count offset ds = number_at offset (in_range (pos (length ds)))
aggregate_of Sum offset [] = Ok null
aggregate_of Sum offset (d ∷ ds) = number_at offset (in_range (exact_sum (d ∷ ds)))
aggregate_of Min offset ds = Ok (or_null (least datum_cmp ds))
aggregate_of Max offset ds = Ok (or_null (least descending_cmp ds))

-- of all aggregates, in written order, or the first fault; the first has its arguments at an index
abbrev pub totals : List AggregateCall → ℕ → List Row → Result Row Fault
totals [] index members = Ok []
totals (c ∷ calls) index members = first_then (aggregate_of c.aggregate c.offset (values_at index members)) (totals calls (index + 1) members)
